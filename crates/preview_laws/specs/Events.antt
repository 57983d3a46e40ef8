-- Any sequence of previews and starts, over any planner: what each event answers, what is on record after it, and the latest path that was started. Definitions only.
use Rattle.std.specs.Prelude.{ℕ, List, [], ◌∷◌, ◌++◌, Ok, Err}
use Rattle.std.proofs.Math.Option.{Option, some, none}
use Rattle.std.proofs.Math.ListN.{get_elem?}
use Rattle.problem.specs.declared.Momenta.{Momenta}
use Rattle.planner.specs.declared.Path.{Path}
use Rattle.planner.specs.declared.Planned.{Planned}
use Rattle.wheel_momenta.specs.Successive.{last_momenta}
use Rattle.wheel_record.specs.declared.Started.{Started}
use Rattle.preview.specs.Previews.{start}
use Rattle.preview.specs.declared.Previewed.{Previewed}
use Rattle.common.specs.Refusals.{Fate}

-- a preview of a request; a start of the preview of that index, the refused ones counted too
pub data Event (Q : Type 0) : Type 0 where
  Ask : Q → Event Q
  Start : ℕ → Event Q

-- what an event answers: a preview; a start of a preview; nothing, where there is no preview of that index
pub data Reply : Type 0 where
  Asked : Previewed → Reply
  Tried : Previewed → Started → Reply
  Nothing : Reply

-- the momenta on record, and the previews so far
pub record Desk : Type 0 where
  pub held : Momenta
  pub asks : List Previewed

abbrev pub opened : Momenta → Desk
opened m = record { held = m; asks = [] }

abbrev pub start_by : Momenta → Option Previewed → Reply
start_by m none = Nothing
start_by m (some v) = Tried v (start m v)

abbrev pub became : Desk → Reply → Desk
became d (Asked v) = record { held = d.held; asks = d.asks ++ (v ∷ []) }
became d (Tried v s) = record { held = s.on_record; asks = d.asks }
became d Nothing = d

-- the last momenta of the path that was started; m where a start was refused
abbrev pub after_start : Fate → Momenta → Path → Momenta
after_start (Ok _) m path = last_momenta path
after_start (Err why) m path = m

-- the last momenta of the latest path that these replies started; m where there is none
abbrev pub latest : Momenta → List Reply → Momenta
latest m [] = m
latest m (Asked v ∷ rs) = latest m rs
latest m (Tried v s ∷ rs) = latest (after_start s.fate m v.planned.path) rs
latest m (Nothing ∷ rs) = latest m rs

-- none of these replies is a start that was answered
abbrev pub NotBegun : Fate → Type 0
NotBegun (Ok _) = ⊥
NotBegun (Err why) = Unit {0}

abbrev pub NoStart : List Reply → Type 0
NoStart [] = Unit {0}
NoStart (Asked v ∷ rs) = NoStart rs
NoStart (Tried v s ∷ rs) = NotBegun s.fate × NoStart rs
NoStart (Nothing ∷ rs) = NoStart rs

-- the requests asked, in order
abbrev pub requests : {Q : Type 0} → List (Event Q) → List Q
requests [] = []
requests (Ask q ∷ es) = q ∷ requests es
requests (Start i ∷ es) = requests es

-- a planner: what it answers to a request from these momenta
module _ {Q : Type 0} (plan : Q → Momenta → Planned) where
  abbrev pub ask : Momenta → Q → Previewed
  ask m q = record { began = m; planned = plan q m }

  abbrev pub reply : Desk → Event Q → Reply
  reply d (Ask q) = Asked (ask d.held q)
  reply d (Start i) = start_by d.held (get_elem? d.asks i)

  abbrev pub finally : Desk → List (Event Q) → Desk
  finally d [] = d
  finally d (e ∷ es) = finally (became d (reply d e)) es

  abbrev pub replies : Desk → List (Event Q) → List Reply
  replies d [] = []
  replies d (e ∷ es) = reply d e ∷ replies (became d (reply d e)) es
