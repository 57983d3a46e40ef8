-- `problem_text::lines_at` meets its contract: each line's form is the next of the list, which the law `lines_more` takes one by one. Assumes nothing.
use Rattle.problem_text.proofs.Lists.{lines_begin, lines_more, lines_end}
use borrow.Author.Rules.{rules}
use Rattle.problem_text.proofs.lines_at.Statement.{statement}
use Rattle.problem_text.proofs.lines_at.Tie as tie

returns : tie.Need-returns
returns l9 =
    let l8 = l9.before.before.before in
    let l7 = l8.before.before.before in
    let l6 = l7.before.before.before in
    let l5 = l6.before.before.before in
    let l4 = l5.before.before.before in
    let l3 = l4.before.before.before in
    let l2 = l3.before.before.before in
    let l1 = l2.before.before.before in
    lines_begin _ _ _ _ l1.nothing-c.ensures
    (lines_more _ _ _ _ _ _ _ l1.next_line-c.ensures
    (lines_more _ _ _ _ _ _ _ l2.next_line-c-2.ensures
    (lines_more _ _ _ _ _ _ _ l3.next_line-c-3.ensures
    (lines_more _ _ _ _ _ _ _ l4.next_line-c-4.ensures
    (lines_more _ _ _ _ _ _ _ l5.next_line-c-5.ensures
    (lines_more _ _ _ _ _ _ _ l6.next_line-c-6.ensures
    (lines_more _ _ _ _ _ _ _ l7.next_line-c-7.ensures
    (lines_more _ _ _ _ _ _ _ l8.next_line-c-8.ensures
    (lines_more _ _ _ _ _ _ _ l9.next_line.ensures
    (lines_end _ _ _))))))))))

pub lines_at_spec : {M : Type 1} → statement M
lines_at_spec =
    tie.close
    (tie.spec (λ c κs. search rules) (λ c κs. search rules) (λ c κs. search rules) (λ c κs. search rules) (λ c κs. search rules) (λ c κs. search rules) (λ c κs. search rules) (λ c κs. search rules) (λ c κs. search rules) (λ c κs. search rules) returns)
