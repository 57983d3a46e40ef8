-- A game of two sides on states, the drive and the draught, who choose in turn; the draught sees the drive's choice. What a play is, and what it is
-- for a play to come home or to be held off. Definitions only; `wins` and what it is made of are the way the answers are found.
use Rattle.std.specs.Prelude.{ℕ, zero, suc, ◌-◌, ◌<◌, ◌≤◌, ◌≡◌, Bool, true, false, not, cond, ◌&&◌, ◌||◌, ltb, eqb}

-- The rules. Each side's choices are counted from the lowest: `drive i` for i below `drives`, `draught j` for j below `draughts`.
pub record Game (S U D : Type 0) : Type 0 where
  pub next : S → U → D → S
  pub inside : S → Bool
  pub home : S → Bool
  pub drive : ℕ → U
  pub drives : ℕ
  pub draught : ℕ → D
  pub draughts : ℕ

-- A play: what each side chooses in each turn.
pub record Play (U D : Type 0) : Type 0 where
  pub us : ℕ → U
  pub ds : ℕ → D

-- the turns after the first
abbrev pub rest : {U D : Type 0} → Play U D → Play U D
rest p = record { us = λ k. p.us (suc k); ds = λ k. p.ds (suc k) }

-- the state after k turns of a play from s
abbrev pub state : {S U D : Type 0} → Game S U D → S → Play U D → ℕ → S
state G s p zero = s
state G s p (suc k) = state G (G.next s (p.us 0) (p.ds 0)) (rest p) k

-- each side chooses what it may
pub record Fair {S U D : Type 0} (G : Game S U D) (p : Play U D) : Type 0 where
  pub by_drive : (k : ℕ) → (i : ℕ) × (i < G.drives) × (p.us k ≡ G.drive i)
  pub by_draught : (k : ℕ) → (j : ℕ) × (j < G.draughts) × (p.ds k ≡ G.draught j)

-- the first k turns, and the start, end inside
abbrev pub Kept : {S U D : Type 0} → Game S U D → S → Play U D → ℕ → Type 0
Kept G s p k = (j : ℕ) → j ≤ k → G.inside (state G s p j) ≡ true

-- a play from s comes home within n turns
abbrev pub ForcedBy : {S U D : Type 0} → Game S U D → ℕ → S → Play U D → Type 0
ForcedBy G n s p = (k : ℕ) × (k ≤ n) × (G.home (state G s p k) ≡ true) × Kept G s p k

-- a play from s does not come home within n turns
abbrev pub HeldOffFor : {S U D : Type 0} → Game S U D → ℕ → S → Play U D → Type 0
HeldOffFor G n s p = (k : ℕ) → k ≤ n → Kept G s p k → G.home (state G s p k) ≡ false

-- the drive goes by what A advises at each state; the draught by what B advises at each state, turns left of n and drive's choice
abbrev pub DriveBy : {S U D : Type 0} → Game S U D → (S → U → Type 0) → S → Play U D → Type 0
DriveBy G A s p = (k : ℕ) (u : _) → A (state G s p k) u → p.us k ≡ u

abbrev pub DraughtBy : {S U D : Type 0} → Game S U D → (S → ℕ → U → D → Type 0) → ℕ → S → Play U D → Type 0
DraughtBy G B n s p = (k : ℕ) (d : _) → k < n → B (state G s p k) (n - k) (p.us k) d → p.ds k ≡ d

-- The way the answers are found. The lowest number below n that passes p, or n where none does.
unfoldable pub least : (ℕ → Bool) → ℕ → ℕ
least p zero = zero
least p (suc n) = cond (ltb (least p n) n) (least p n) (cond (p n) n (suc n))

-- `won` says of which states the drive wins; d keeps it winning at s after u
abbrev pub keeps : {S U D : Type 0} → Game S U D → (S → Bool) → S → U → D → Bool
keeps G won s u d = G.inside (G.next s u d) && won (G.next s u d)

-- the lowest reply after which the drive does not win any more; the number of replies where there is none
abbrev pub answer : {S U D : Type 0} → Game S U D → (S → Bool) → S → U → ℕ
answer G won s u = least (λ j. not (keeps G won s u (G.draught j))) G.draughts

-- the lowest choice to which there is no such reply; the number of choices where there is none
abbrev pub choice : {S U D : Type 0} → Game S U D → (S → Bool) → S → ℕ
choice G won s = least (λ i. eqb (answer G won s (G.drive i)) G.draughts) G.drives

-- the drive can force home within n turns
unfoldable pub wins : {S U D : Type 0} → Game S U D → ℕ → S → Bool
wins G zero s = G.home s
wins G (suc n) s = G.home s || ltb (choice G (wins G n) s) G.drives

-- the fewest turns up to m in which the drive can force home; `none` where it cannot
unfoldable pub fewest : {S U D : Type 0} → Game S U D → ℕ → ℕ → S → ℕ
fewest G none zero s = cond (G.home s) 0 none
fewest G none (suc m) s = cond (eqb (fewest G none m s) none) (cond (wins G (suc m) s) (suc m) none) (fewest G none m s)
