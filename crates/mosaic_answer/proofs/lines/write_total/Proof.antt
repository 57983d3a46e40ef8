-- `mosaic_answer::lines::write_total` meets its contract: the texts that the calls put stand one after another. Assumes nothing.
use borrow.Author.Rules.{rules}
use Rattle.text_writer.specs.PutLaws.{puts_join}
use Rattle.mosaic_answer.specs.LegLines.{total}
use Rattle.mosaic_answer.proofs.lines.write_total.Statement.{statement}
use Rattle.mosaic_answer.proofs.lines.write_total.Tie as tie

returns : tie.Need-returns
unfolding total
returns c =
    let end = c.before.before in
    let runs = end.before.before.before.before.before in
    let duration = runs.before.before.before.before.before in
    let legs = duration.before.before.before.before in
    let begin = legs.before.before.before.before.before in
    puts_join (puts_join (puts_join (puts_join c.put_all-i.ensures legs.put_counted-j.ensures) duration.put_duration-k.ensures) runs.put_counted-l.ensures) end.put_all.ensures

pub write_total_spec : {M : Type 1} → statement M
write_total_spec =
    tie.close
    (tie.spec (λ c κs. search rules) (λ c κs. search rules) (λ c κs. search rules) (λ c κs. search rules) (λ c κs. search rules) (λ c. search rules) returns)
