-- `angles::counted::sine_series` meets its contract: region by region; inside, the rest of `reduced` has the end that `sine_size` answers.
use Rattle.std.proofs.Common.{sym, ap, ◌∙◌, rules}
use Rattle.angles.specs.declared.Zone.TheVariants as Zone
use Rattle.angles.specs.Ended.{series_by}
use Rattle.angles.proofs.Answered.{sine_series_by, sine_ends}
use Rattle.angles.proofs.counted.sine_series.Statement.{statement}
use Rattle.angles.proofs.counted.sine_series.Tie as tie

reduced-requires : tie.Need-reduced-t-requires
reduced-requires c κs = sym c.region-zone.ensures ∙ c.in-Inside.is

returns : tie.Need-returns-in-Outside
returns c = sine_series_by _ c.region-zone.ensures c.in-Outside.is

returns_2 : tie.Need-returns-in-Tiny
returns_2 c = sine_series_by _ c.region-zone.ensures c.in-Tiny.is

returns_3 : tie.Need-returns-in-Inside
returns_3 c =
    let d = c.before in
    let a = d.before in
    let z = a.before in
    let t = d.reduced-t.ensures in
    ap (series_by Zone.Inside) (sine_ends t c.sine_size-e.ensures) ∙ sine_series_by _ z.region-zone.ensures a.in-Inside.is

pub sine_series_spec : {M : Type 1} → statement M
sine_series_spec =
    tie.close
    (tie.spec
    (λ c κs. search rules)
    (λ c. search rules)
    (λ c. search rules)
    (λ c. search rules)
    reduced-requires
    (λ c κs. search rules)
    returns
    returns_2
    returns_3)
