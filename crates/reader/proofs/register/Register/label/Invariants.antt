use Rattle.std.proofs.Common.{◌≡◌}
use Rattle.book.specs.Plain.{empty_label}
use Rattle.reader.specs.Says.{labelled, knows}
use Rattle.reader.proofs.register.Register.label.Given as goal

abbrev pub invariant-loop-word : goal.invariant-loop-word
invariant-loop-word l =
    (goal.iterator-loop-word).can_next l.word-iterator ×
    (goal.iterator-loop-word).is_finite l.word-iterator ×
    (labelled l.label (knows l.self) l.word-iterator.rest ≡ labelled empty_label (knows l.self) l.fn.words.rest)
