-- `mosaic_answer::lines::write_heading` meets its contract: the texts that the calls put stand one after another. Assumes nothing.
use borrow.Author.Rules.{rules}
use Rattle.text_writer.specs.PutLaws.{puts_join}
use Rattle.mosaic_answer.specs.LegLines.{heading}
use Rattle.mosaic_answer.proofs.lines.write_heading.Statement.{statement}
use Rattle.mosaic_answer.proofs.lines.write_heading.Tie as tie

returns : tie.Need-returns
unfolding heading
returns c =
    let end = c.before.before in
    puts_join end.put_counted-i.ensures c.put_all.ensures

pub write_heading_spec : {M : Type 1} → statement M
write_heading_spec = tie.close (tie.spec (λ c κs. search rules) (λ c κs. search rules) (λ c. search rules) returns)
