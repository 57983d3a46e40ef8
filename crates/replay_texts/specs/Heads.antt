-- Where the parts of a stored text stand. Definitions only.
use Rattle.std.specs.Prelude.{ℕ, ◌≤◌}
use Rattle.replay_texts.specs.declared.head.Head.{Head}

-- the words fit their room; the text ends where the answer starts, and both lie within a block of `size` bytes
pub record Ordered (size : ℕ) (h : Head) : Type 0 where
  pub few : h.words ≤ 1000
  pub text : h.text ≤ h.answer
  pub answer : h.answer ≤ h.end
  pub within : h.end ≤ size
