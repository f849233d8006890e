use Rattle.std.proofs.Common.{inl, inr, map, string_bytes, subst, ℕ}
use Rattle.std.specs.Process.{exit_status}
use Rattle.outputs.specs.Outputs.{after}
use Rattle.command_line.specs.Words.{word_status_of}
use Rattle.command_line.specs.Words.{Tells as TellsWords}
use Rattle.command_line.specs.declared.task.WordFault.TheVariants as word
use Rattle.program.specs.Answers.{EndsText}
use Rattle.program.proofs.arguments.asked.Goals as goal

pub returns-in-Ok-clause-success : goal.returns-in-Ok-clause-success
returns-in-Ok-clause-success g c = λ z.
    inl record {
      task = c.in-Ok.task;
      asked = record {
        asked = c.in-Ok.ensures.asked;
        paths = c.in-Ok.ensures.paths;
        asks = c.in-Ok.ensures.asks;
      };
      made = c.read_and_answer-code.ensures.success z;
    }

pub returns-in-Ok-clause-ended : goal.returns-in-Ok-clause-ended
returns-in-Ok-clause-ended g c = inl (
  c.in-Ok.task,
  record { asked = c.in-Ok.ensures.asked; paths = c.in-Ok.ensures.paths; asks = c.in-Ok.ensures.asks },
  c.read_and_answer-code.ensures.ended,
)

pub returns-in-Words-clause-ended : goal.returns-in-Words-clause-ended
returns-in-Words-clause-ended g c =
    let words = map string_bytes c.args.words.now in
    let Ended : ℕ → Type 0 = λ code. EndsText code (g.O.Write.contents c.args.out.now)
    (after (g.O.Write.contents c.tell_words.new.out) (g.O.Output.broke c.tell_words.new.out))
    (g.E.Write.contents c.args.err.now)
    (after (g.E.Write.contents c.tell_words.new.err) (g.E.Output.broke c.tell_words.new.err))
    (exit_status c.tell_words.result) in
    let told = subst (λ f. TellsWords f words) c.in-Words.is c.in-Err.ensures.fault in
    let ended = subst (λ f. Ended (word_status_of f)) c.in-Words.is
    (subst Ended c.word_status-code.ensures c.tell_words.ensures.ended) in
    inr (word.Words c.in-Words.error, told, ended)
