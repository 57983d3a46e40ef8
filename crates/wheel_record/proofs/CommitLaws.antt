-- Momenta beside themselves. Assumes nothing.
use Rattle.std.specs.Prelude.{ℕ, ◌≤◌, ◌≡◌, refl, true}
use Rattle.problem.specs.declared.Momenta.{Momenta}
use Rattle.wheel_record.specs.Commits.{same}
use Rattle.wheel_record.specs.CommitLaws.{alike_same}

-- momenta of at most eight wheels have their own bits
pub self_same : (m : Momenta) → m.count ≤ 8 → same m m ≡ true
self_same m h = alike_same m m (record { count = refl; most = h; each = λ i l. refl })
