use Rattle.mosaic.specs.Mosaics.{tile_of}
use Rattle.whole_mosaic.specs.Filling.{Filling}
use Rattle.whole_mosaic.proofs.put_legs.Given as goal

-- k legs are answered, and their rows stand
abbrev pub invariant-loop-k : goal.invariant-loop-k
invariant-loop-k l =
    Filling l.way l.p (tile_of l.tiles) l.initial.c.momenta l.initial.ws l.k l.c l.initial.counts l.counts l.initial.times l.times l.initial.decisions l.decisions l.initial.nodes l.nodes l.ws
