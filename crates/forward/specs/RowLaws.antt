-- A row that is written is a node that is set, and a node's numbers make its parts. Assumes nothing.
use Rattle.std.specs.Prelude.{ℕ, zero, suc, ◌+◌, ◌≤◌, ◌<◌, ◌≡◌, refl, List, [], ◌∷◌, map, length, get_or, set, pos, Float}
use Rattle.std.proofs.Common.{sym, ap, ◌∙◌, arith, get_or-set_other}
use Rattle.std.proofs.lemmas.List.{length-map}
use Rattle.std.specs.Float.{binary64}
use Rattle.std.specs.Float.Ieee.{mul, of_int}
use Rattle.common.specs.Lists.{at}
use Rattle.forward.specs.Runs.{no_node, node_of}
use Rattle.forward.specs.Rows.{node_from, nodes_from, row_at, SameBelow}
use Rattle.forward.specs.declared.Node.{Node}
use Rattle.forward.specs.declared.BodyState.{BodyState}

map_set : {A B : Type 0} (f : A → B) (l : List A) (i : ℕ) (x : A) → map f (set l i x) ≡ set (map f l) i (f x)
map_set f [] i x = refl
map_set f (y ∷ ys) zero x = refl
map_set {B = B} f (y ∷ ys) (suc i) x = ap (λ (zs : List B). f y ∷ zs) (map_set f ys i x)

map_at : {A B : Type 0} (f : A → B) (l : List A) (i : ℕ) (d : A) (e : B) → i < length l → get_or (map f l) i e ≡ f (get_or l i d)
map_at f [] i d e h = absurd (omega arith)
map_at f (y ∷ ys) zero d e h = refl
map_at f (y ∷ ys) (suc i) d e h = map_at f ys i d e (omega arith)

pub nodes_set : (v : List (List Float)) (k : ℕ) (r : List Float) → nodes_from (set v k r) ≡ set (nodes_from v) k (node_from r)
unfolding nodes_from
nodes_set v k r = map_set node_from v k r

pub nodes_at : (v : List (List Float)) (k : ℕ) → k < length v → get_or (nodes_from v) k no_node ≡ node_from (row_at v k)
unfolding nodes_from
nodes_at v k h = map_at node_from v k [] no_node h

pub nodes_length : (v : List (List Float)) → length (nodes_from v) ≡ length v
unfolding nodes_from
nodes_length v = length-map v node_from

-- rows from k on are written, and those below stay
pub below_set : (k : ℕ) (v u : List (List Float)) (i : ℕ) (r : List Float) → k ≤ i → SameBelow k v u → SameBelow k v (set u i r)
below_set k v u i r h s j l = get_or-set_other u i j r [] (λ e. omega arith) ∙ s j l

-- a list of three numbers, or of eight, by its numbers
three : (l : List Float) → length l ≡ 3 → at l 0 ∷ at l 1 ∷ at l 2 ∷ [] ≡ l
three [] h = absurd (omega arith)
three (a ∷ []) h = absurd (omega arith)
three (a ∷ b ∷ []) h = absurd (omega arith)
three (a ∷ b ∷ c ∷ []) h = refl
three (a ∷ b ∷ c ∷ d ∷ l) h = absurd (omega arith)

eight : (l : List Float) → length l ≡ 8 → at l 0 ∷ at l 1 ∷ at l 2 ∷ at l 3 ∷ at l 4 ∷ at l 5 ∷ at l 6 ∷ at l 7 ∷ [] ≡ l
eight [] h = absurd (omega arith)
eight (a ∷ []) h = absurd (omega arith)
eight (a ∷ b ∷ []) h = absurd (omega arith)
eight (a ∷ b ∷ c ∷ []) h = absurd (omega arith)
eight (a ∷ b ∷ c ∷ d ∷ []) h = absurd (omega arith)
eight (a ∷ b ∷ c ∷ d ∷ e ∷ l) h = ap (λ (x : List Float). a ∷ b ∷ c ∷ d ∷ e ∷ x) (three l (omega arith))

-- the numbers of node k: the state at its time, with the torque tau
abbrev pub numbers : Float → ℕ → BodyState → List Float → List Float
numbers dt k s tau =
    mul binary64 (of_int binary64 (pos k)) dt ∷ s.q.w ∷ s.q.x ∷ s.q.y ∷ s.q.z
    ∷ at s.w 0 ∷ at s.w 1 ∷ at s.w 2
    ∷ at tau 0 ∷ at tau 1 ∷ at tau 2
    ∷ at s.h 0 ∷ at s.h 1 ∷ at s.h 2
    ∷ at s.hw 0 ∷ at s.hw 1 ∷ at s.hw 2 ∷ at s.hw 3 ∷ at s.hw 4 ∷ at s.hw 5 ∷ at s.hw 6 ∷ at s.hw 7
    ∷ []

pub numbers_node : (dt : Float) (k : ℕ) (s : BodyState) (tau : List Float) → length s.w ≡ 3 → length tau ≡ 3 → length s.h ≡ 3 → length s.hw ≡ 8 → node_from (numbers dt k s tau) ≡ node_of dt k s tau
unfolding node_from node_of
numbers_node dt k s tau w u h m = rw (three s.w w, three tau u, three s.h h, eight s.hw m)
