-- The count's answer and the index decide as in the definition; a count that is given is at most 100,000.
use Rattle.std.proofs.Common.{◌≡◌, ℕ, ap, sym, ◌∙◌, arith, Option, Some, None, Err}
use Rattle.std.specs.Option.{ok_or}
use Rattle.std.proofs.lemmas.Result.{err_from_is_err_and}
use Rattle.common.specs.declared.Refusal.{Refusal}
use Rattle.samples.specs.CountLaws.{given_count}
use Rattle.samples.specs.SampleLaws.{too_many, in_count, past_count}
use Rattle.samples.proofs.sample.Goals as goal

-- the refusal in place of a value that is missing
missing : (o : Option ℕ) {e why : Refusal} → o ≡ None → Err why ≡ ok_or o e → why ≡ e
missing None n h = cc
missing (Some n) o h = absurd (let z : ◌≡◌ {A = ℕ} 0 1 = cc in omega arith)

pub returns-in_err-count : goal.returns-in_err-count
returns-in_err-count c =
    let none = c.in_err-count.ensures.ok_part in
    let p = err_from_is_err_and c.from_residual.result c.from_residual.ensures.1 in
    p.1 ∙ ap Err (p.2 ∙ missing _ none c.in_err-count.ensures.value) ∙ too_many _ _ _ _ _ _ _ (sym c.sample_count.ensures ∙ none)

pub returns-then-index-count : goal.returns-then-index-count
returns-then-index-count c = past_count _ _ _ _ _ _ _ (sym c.sample_count.ensures ∙ c.in_ok-count.ensures.ok_part) c.if-index-count.true

pub time_of-t-requires : goal.time_of-t-requires
time_of-t-requires c = (c.if-index-count.false, given_count _ _ _ (sym c.sample_count.ensures ∙ c.in_ok-count.ensures.ok_part))

pub returns : goal.returns
returns c =
    c.interpolate.ensures ∙ rw c.time_of-t.ensures (in_count _ _ _ _ _ _ _ (sym c.sample_count.ensures ∙ c.in_ok-count.ensures.ok_part) c.if-index-count.false)
