-- Where the counts of held controls of an answered path come from. Assumes nothing.
use Rattle.std.specs.Prelude.{◌≡◌, refl, true, false, List, ℕ, ◌<◌, ◌≤◌, T, Float}
use Rattle.std.proofs.Math.Path.{ap}
use Rattle.std.proofs.Common.{◌∙◌}
use Rattle.actuators.specs.Maps.{control_dim}
use Rattle.held_counts.specs.Counts.{held_counts, count_at_value}
use Rattle.held_counts.specs.CountLaws.{count_most_each, count_past}
use Rattle.problem.specs.declared.CheckedProblem.{CheckedProblem}
use Rattle.seeds.specs.Seeds as Seeds
use Rattle.scvx.specs.Search as Search
use Rattle.scvx.specs.Search.{search, searched}
use Rattle.scvx.specs.declared.Candidate.{Candidate}
use Rattle.run_laws.specs.Values.{goes}
use Rattle.search_laws.specs.Keeps.{Gone, search_gone}
use Rattle.search_laws.specs.Made.{LastTaken, Made, by_seed, by_trial, state_at}
use Rattle.search_laws.specs.MadeLaws.{searched_made}
use Rattle.planner.specs.Plans as Plans
use Rattle.planner.specs.Promises.{HeldBy, as_seed, as_trial}

-- the counts are those of some decision before its projection
record Counted (c : CheckedProblem) (held : List ℕ) : Type 0 where
  before : List Float
  is : held ≡ held_counts c.map c.torque_limit before

-- the seed's are those of its allocated rows
seed_counted : (c : CheckedProblem) (duration : Float) (torques : List Float) → Counted c (Plans.seed_held_of c duration torques)
unfolding Seeds.seed_held
seed_counted c duration torques = record { before = Seeds.allocated c.map duration torques; is = refl }

module _ (c : CheckedProblem) (seed : List Float) (counts : List ℕ) (t : T (goes (search c seed).fate)) where
  abbrev last : Candidate
  last = (searched c seed).candidate

  gone : Gone c (searched c seed) (search c seed)
  gone = search_gone c seed t

  -- the seed's decision, not tried
  seed_is : last ≡ (Search.start c seed).candidate → ((search c seed).z ≡ seed) × ((search c seed).tried ≡ false)
  unfolding Search.start
  seed_is e = (gone.z ∙ ap (λ (x : Candidate). x.z) e, gone.tried ∙ ap (λ (x : Candidate). x.tried) e)

  -- a trial
  trial_is : LastTaken c seed 40 last → (search c seed).tried ≡ true
  trial_is l = gone.tried ∙ ap (λ (x : Candidate). x.tried) l.is

  made_held : Made c seed 40 last → HeldBy c seed (Plans.path_of c (search c seed) counts)
  made_held (by_seed e) = as_seed (seed_is e).0 (seed_is e).1
  made_held (by_trial l) = as_trial last l gone.z (rw (trial_is l) gone.held)

  -- HELD BY the seed's projection or the last trial's
  pub path_held : HeldBy c seed (Plans.path_of c (search c seed) counts)
  path_held = made_held (searched_made c seed)

  made_counted : Made c seed 40 last → Counted c counts → Counted c (Plans.held_of (search c seed) counts)
  unfolding Search.trial_held
  made_counted (by_seed e) k = rw (seed_is e).1 k
  made_counted (by_trial l) k = rw (trial_is l) (record { before = Search.applied c (state_at c seed l.k).candidate.z l.d; is = gone.held ∙ ap (λ (x : Candidate). x.held) l.is })

-- the counts of a path: at most 16, none past the controls
module _ (c : CheckedProblem) (narrow : control_dim c.map ≤ 12) (seed : List Float) (duration : Float) (torques : List Float) (t : T (goes (search c seed).fate)) where
  counted : Counted c (Plans.held_of (search c seed) (Plans.seed_held_of c duration torques))
  counted = made_counted c seed (Plans.seed_held_of c duration torques) t (searched_made c seed) (seed_counted c duration torques)

  pub counts_most : (i : ℕ) → i < 12 → count_at_value (Plans.held_of (search c seed) (Plans.seed_held_of c duration torques)) i ≤ 16
  counts_most i h = rw counted.is (count_most_each c.map c.torque_limit counted.before narrow i h)

  pub counts_past : (i : ℕ) → control_dim c.map ≤ i → i < 12 → count_at_value (Plans.held_of (search c seed) (Plans.seed_held_of c duration torques)) i ≡ 0
  counts_past i h k = rw counted.is (count_past c.map c.torque_limit counted.before i h k)
