-- Over any sequence of previews and starts and any planner: what is on record, what a refused event changes, what a started path is. Assumes nothing.
use Rattle.std.specs.Prelude.{ℕ, zero, suc, ◌+◌, ◌<◌, ◌≡◌, true, List, [], ◌∷◌, ◌++◌, length, Ok, Err}
use Rattle.std.proofs.Math.Path.{refl}
use Rattle.std.proofs.Common.{sym, ap, subst, ◌∙◌, append-nil, arith, length-append}
use Rattle.std.proofs.Math.Option.{Option, some, none}
use Rattle.std.proofs.Math.ListN.{get_elem?}
use Rattle.std.proofs.Math.Seq.{append_snoc}
use Rattle.common.specs.Lists.{at}
use Rattle.problem.specs.declared.Momenta.{Momenta}
use Rattle.planner.specs.declared.Path.{Path}
use Rattle.planner.specs.declared.Planned.{Planned}
use Rattle.wheel_momenta.specs.Successive.{last_momenta}
use Rattle.wheel_record.specs.Commits.{same, not_started, commit}
use Rattle.wheel_record.specs.CommitLaws.{after_by, commit_leaves, commit_started}
use Rattle.wheel_record.specs.declared.Started.{Started}
use Rattle.preview.specs.Previews.{answered, start}
use Rattle.preview.specs.declared.Previewed.{Previewed}
use Rattle.preview_laws.specs.Events.{Event, Ask, Start, Reply, Asked, Tried, Nothing, Desk, opened, start_by, became, after_start, latest, NotBegun, NoStart, requests, ask, reply, finally, replies}
use Rattle.common.specs.Refusals.{Fate, refusal, going}

-- ---- one start
-- the record after it: the path's last momenta, or what it was
after_as : (f : Fate) (m : Momenta) (path : Path) → after_by f m (last_momenta path) ≡ after_start f m path
after_as (Ok _) m path = refl
after_as (Err why) m path = refl

pub start_leaves : (m : Momenta) (v : Previewed) → (start m v).on_record ≡ after_start (start m v).fate m v.planned.path
start_leaves m v = commit_leaves m (answered v.planned.fate) v.began (last_momenta v.planned.path) ∙ after_as (start m v).fate m v.planned.path

answered_goes : (f : Fate) → answered f ≡ true → f ≡ going
answered_goes (Ok _) e = refl
answered_goes (Err why) e = let z : ◌≡◌ {A = ℕ} 0 1 = cc in absurd (omega arith)

-- only a preview with a path is started, and only beside the bits that it began from
pub record Begun (m : Momenta) (v : Previewed) : Type 0 where
  pub planned : v.planned.fate ≡ going
  pub alike : same m v.began ≡ true

pub start_begun : (m : Momenta) (v : Previewed) → (start m v).fate ≡ going → Begun m v
start_begun m v e =
    let c = commit_started m (answered v.planned.fate) v.began (last_momenta v.planned.path) e in
    record { planned = answered_goes v.planned.fate c.0; alike = c.1 }

module _ {Q : Type 0} (plan : Q → Momenta → Planned) where
  -- ---- THE RECORD after any events is the last momenta of the latest path started, or the first record where none was
  became_latest : (d : Desk) (e : Event Q) (rs : List Reply) → latest (became d (reply plan d e)).held rs ≡ latest d.held (reply plan d e ∷ rs)
  became_latest d (Ask q) rs = refl
  became_latest d (Start i) rs = by (get_elem? d.asks i)
    where
      by : (o : Option Previewed) → latest (became d (start_by d.held o)).held rs ≡ latest d.held (start_by d.held o ∷ rs)
      by none = refl
      by (some v) = ap (λ (m : Momenta). latest m rs) (start_leaves d.held v)

  pub record_latest : (d : Desk) (es : List (Event Q)) → (finally plan d es).held ≡ latest d.held (replies plan d es)
  record_latest d [] = refl
  record_latest d (e ∷ es) =
      let n = became d (reply plan d e) in
      record_latest n es ∙ became_latest d e (replies plan n es)

-- the same in words, of which `latest` is no part
not_begun : (f : Fate) (m : Momenta) (path : Path) → NotBegun f → after_start f m path ≡ m
not_begun (Ok _) m path h = absurd h
not_begun (Err why) m path h = refl

quiet : (m : Momenta) (rs : List Reply) → NoStart rs → latest m rs ≡ m
quiet m [] h = refl
quiet m (Asked v ∷ rs) h = quiet m rs h
quiet m (Tried v s ∷ rs) h = ap (λ (x : Momenta). latest x rs) (not_begun s.fate m v.planned.path h.0) ∙ quiet m rs h.1
quiet m (Nothing ∷ rs) h = quiet m rs h

latest_past : (m : Momenta) (xs ys : List Reply) → latest m (xs ++ ys) ≡ latest (latest m xs) ys
latest_past m [] ys = refl
latest_past m (Asked v ∷ xs) ys = latest_past m xs ys
latest_past m (Tried v s ∷ xs) ys = latest_past (after_start s.fate m v.planned.path) xs ys
latest_past m (Nothing ∷ xs) ys = latest_past m xs ys

module _ {Q : Type 0} (plan : Q → Momenta → Planned) where
  pub record_started : (m : Momenta) (es : List (Event Q)) (before later : List Reply) (v : Previewed) (s : Started) → replies plan (opened m) es ≡ before ++ (Tried v s ∷ later) → s.fate ≡ going → NoStart later
      → (finally plan (opened m) es).held ≡ last_momenta v.planned.path
  record_started m es before later v s e g h =
      record_latest plan (opened m) es
      ∙ ap (latest m) e
      ∙ latest_past m before (Tried v s ∷ later)
      ∙ ap (λ (f : Fate). latest (after_start f (latest m before) v.planned.path) later) g
      ∙ quiet (last_momenta v.planned.path) later h

  pub record_first : (m : Momenta) (es : List (Event Q)) → NoStart (replies plan (opened m) es) → (finally plan (opened m) es).held ≡ m
  record_first m es h = record_latest plan (opened m) es ∙ quiet m (replies plan (opened m) es) h

  -- ---- REFUSED EVENTS: a preview, answered or refused, leaves the record; a refused start changes nothing
  pub ask_keeps : (d : Desk) (q : Q) → (became d (reply plan d (Ask q))).held ≡ d.held
  ask_keeps d q = refl

  finally_past : (d : Desk) (xs ys : List (Event Q)) → finally plan d (xs ++ ys) ≡ finally plan (finally plan d xs) ys
  finally_past d [] ys = refl
  finally_past d (x ∷ xs) ys = finally_past (became d (reply plan d x)) xs ys

  stays : (d : Desk) (i : ℕ) → NoStart (reply plan d (Start i) ∷ []) → became d (reply plan d (Start i)) ≡ d
  stays d i = by (get_elem? d.asks i)
    where
      by : (o : Option Previewed) → NoStart (start_by d.held o ∷ []) → became d (start_by d.held o) ≡ d
      by none h = refl
      by (some v) h = ap (λ (m : Momenta). record { held = m; asks = d.asks }) (start_leaves d.held v ∙ not_begun (start d.held v).fate d.held v.planned.path h.0)

  -- without it, wherever it stands, every sequence ends the same
  pub refused_start : (d : Desk) (xs ys : List (Event Q)) (i : ℕ) → NoStart (reply plan (finally plan d xs) (Start i) ∷ []) → finally plan d (xs ++ (Start i ∷ ys)) ≡ finally plan d (xs ++ ys)
  refused_start d xs ys i h = finally_past d xs (Start i ∷ ys) ∙ ap (λ (x : Desk). finally plan x ys) (stays (finally plan d xs) i h) ∙ sym (finally_past d xs ys)

-- a refused preview is never started: 26 at place 0
pub refused_preview : (m : Momenta) (v : Previewed) (number place : ℕ) → v.planned.fate ≡ Err (refusal number place) → start m v ≡ not_started m 0
unfolding commit
refused_preview m v number place e = rw e refl

pub refused_start_keeps : (m : Momenta) (v : Previewed) (number place : ℕ) → (start m v).fate ≡ Err (refusal number place) → (start m v).on_record ≡ m
refused_start_keeps m v number place e = start_leaves m v ∙ ap (λ (f : Fate). after_start f m v.planned.path) e

-- ---- places of a list that grows at its end
at_front : {A : Type 0} (xs : List A) (y : A) (i : ℕ) → i < length xs → get_elem? (xs ++ (y ∷ [])) i ≡ get_elem? xs i
at_front [] y i h = absurd (omega arith)
at_front (x ∷ xs) y zero h = refl
at_front (x ∷ xs) y (suc i) h = at_front xs y i (omega (arith, h))

at_end : {A : Type 0} (xs : List A) (y : A) → get_elem? (xs ++ (y ∷ [])) (length xs) ≡ some y
at_end [] y = refl
at_end (x ∷ xs) y = at_end xs y

data Place {A : Type 0} (xs : List A) (i : ℕ) : Type 0 where
  inside : i < length xs → Place xs i
  last : i ≡ length xs → Place xs i

up : {A : Type 0} {y : A} {xs : List A} {i : ℕ} → Place xs i → Place (y ∷ xs) (suc i)
up (inside h) = inside (omega arith)
up (last e) = last (ap suc e)

placed : {A : Type 0} (xs : List A) (y : A) (i : ℕ) {x : A} → get_elem? (xs ++ (y ∷ [])) i ≡ some x → Place xs i
placed [] y zero e = last refl
placed [] y (suc i) {x} e = let z : ◌≡◌ {A = ℕ} 0 1 = cc in absurd (omega arith)
placed (w ∷ xs) y zero e = inside (omega arith)
placed (w ∷ xs) y (suc i) e = up (placed xs y i e)

-- ---- WHAT WAS ASKED: preview i is the planner's answer to request i, from the momenta that it holds
module _ {Q : Type 0} (plan : Q → Momenta → Planned) where
  pub record Answer (q : Q) (qs : List Q) (i : ℕ) (v : Previewed) : Type 0 where
    pub asked : get_elem? qs i ≡ some q
    pub planned : plan q v.began ≡ v.planned

  pub record Sound (qs : List Q) (d : Desk) : Type 0 where
    pub count : length d.asks ≡ length qs
    pub each : (i : ℕ) (v : Previewed) → get_elem? d.asks i ≡ some v → (q : Q) × Answer q qs i v

  module _ (qs : List Q) (d : Desk) (s : Sound qs d) (q : Q) where
    asked_each : (i : ℕ) (v : Previewed) → get_elem? (d.asks ++ (ask plan d.held q ∷ [])) i ≡ some v → Place d.asks i → (x : Q) × Answer x (qs ++ (q ∷ [])) i v
    asked_each i v e (inside b) =
        let old = s.each i v (sym (at_front d.asks (ask plan d.held q) i b) ∙ e) in
        (old.0, record { asked = at_front qs q i (rw s.count at b) ∙ old.1.asked; planned = old.1.planned })
    asked_each i v e (last b) =
        let y : ask plan d.held q ≡ v = cc (at_end d.asks (ask plan d.held q), b, e) in
        let k : i ≡ length qs = b ∙ s.count in
        (q, record { asked = rw k (at_end qs q); planned = subst (λ (x : Previewed). plan q x.began ≡ x.planned) y refl })

    asked_sound : Sound (qs ++ (q ∷ [])) (became d (reply plan d (Ask q)))
    asked_sound = record {
      count = simp (length-append, s.count);
      each = λ i v e. asked_each i v e (placed d.asks (ask plan d.held q) i e);
    }

  start_sound : (qs : List Q) (d : Desk) → Sound qs d → (o : Option Previewed) → Sound qs (became d (start_by d.held o))
  start_sound qs d s none = s
  start_sound qs d s (some v) = record { count = s.count; each = s.each }

  events_sound : (es : List (Event Q)) (qs : List Q) (d : Desk) → Sound qs d → Sound (qs ++ requests es) (finally plan d es)
  events_sound [] qs d s = rw append-nil s
  events_sound (Ask q ∷ es) qs d s = rw append_snoc at (events_sound es (qs ++ (q ∷ [])) (became d (reply plan d (Ask q))) (asked_sound qs d s q))
  events_sound (Start i ∷ es) qs d s = events_sound es qs (became d (reply plan d (Start i))) (start_sound qs d s (get_elem? d.asks i))

  pub sound : (m : Momenta) (es : List (Event Q)) → Sound (requests es) (finally plan (opened m) es)
  sound m es = events_sound es [] (opened m) (record { count = refl; each = λ i v e. let z : ◌≡◌ {A = ℕ} 0 1 = cc in absurd (omega arith) })

  -- ---- A STARTED PATH, of a planner that reads of the momenta the wheels and nothing else: after any events it is what the planner gives, from the momenta now on record, for the request that was asked
  module _ (wheels : (q : Q) (m n : Momenta) → same m n ≡ true → plan q m ≡ plan q n) where
    pub started_from : (m : Momenta) (es : List (Event Q)) (i : ℕ) (v : Previewed) → get_elem? (finally plan (opened m) es).asks i ≡ some v → (start (finally plan (opened m) es).held v).fate ≡ going
        → (q : Q) × (get_elem? (requests es) i ≡ some q) × (plan q (finally plan (opened m) es).held ≡ v.planned)
    started_from m es i v e g =
        let d = finally plan (opened m) es in
        let a = (sound m es).each i v e in
        (a.0, a.1.asked, wheels a.0 d.held v.began (start_begun d.held v g).alike ∙ a.1.planned)

  -- ---- and a start is not always refused: what is asked and started at once is started
  pub started_at_once : (m : Momenta) (q : Q) → same m m ≡ true → (plan q m).fate ≡ going → start m (ask plan m q) ≡ record { fate = going; on_record = last_momenta (plan q m).path }
  unfolding commit
  started_at_once m q s g = rw (g, s) refl
