-- `sample_text::lines::put_sample` meets its contract: the texts that the calls put stand one after another. Assumes nothing.
use Rattle.text_writer.specs.PutLaws.{puts_join}
use Rattle.sample_text.specs.SampleLines.{opening, closing, sample_line}
use Rattle.std.proofs.Common.{rules}
use Rattle.sample_text.proofs.lines.put_sample.Statement.{statement}
use Rattle.sample_text.proofs.lines.put_sample.Tie as tie

returns : tie.Need-returns
unfolding opening closing sample_line
returns c =
    let last = c.before.before in
    let words = last.before.before.before.before.before.before in
    let numbers = words.before.before.before in
    puts_join (puts_join numbers.put_either-i.ensures (rw numbers.numbers_of-v.ensures at words.put_words-j.ensures)) last.put_either.ensures

pub put_sample_spec : {M : Type 1} → statement M
put_sample_spec =
    tie.close
    (tie.spec (λ c κs. search rules) (λ c κs. search rules) (λ c. search rules) (λ c κs. search rules) (λ c κs. search rules) (λ c. search rules) returns)
