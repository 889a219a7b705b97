-- The line of each reply.
use Rattle.std.specs.Prelude.{ℕ, List, ◌++◌, Ok, Err, codes, decimal}
use Rattle.book.specs.declared.parts.Taken.{Taken}
use Rattle.book.specs.declared.parts.Taken.TheVariants.{NewJob, NewBound, Withdrawn}
use Rattle.book.specs.Plain.{number as book_number}
use Rattle.find.specs.Answers.{number}
use Rattle.verdicts.specs.declared.answers.StrongAnswer.{StrongAnswer}
use Rattle.verdicts.specs.declared.answers.StrongAnswer.TheVariants.{Yes as StrongYes, No as StrongNo}
use Rattle.verdicts.specs.declared.answers.WeakAnswer.{WeakAnswer}
use Rattle.verdicts.specs.declared.answers.WeakAnswer.TheVariants.{Yes as WeakYes, No as WeakNo}
use Rattle.verdicts.specs.declared.answers.DynamicAnswer.{DynamicAnswer}
use Rattle.verdicts.specs.declared.answers.DynamicAnswer.TheVariants.{Yes as DynamicYes, No as DynamicNo}
use Rattle.promise.specs.declared.parts.Reply.{Reply}
use Rattle.promise.specs.declared.parts.Reply.TheVariants.{Book, Strong, Weak, Dynamic}

-- words, then a number and the end of the line
abbrev pub numbered : List ℕ → ℕ → List ℕ
numbered words n = words ++ (decimal n ++ codes "\n")

-- the line of a call that is taken, and of each verdict that is given
abbrev pub taken_line : Taken → List ℕ
taken_line (NewJob n) = numbered (codes "job ") n
taken_line (NewBound n) = numbered (codes "bound ") n
taken_line Withdrawn = codes "withdrawn\n"

abbrev pub strong_line : StrongAnswer → List ℕ
strong_line StrongYes = codes "strong yes\n"
strong_line (StrongNo n) = numbered (codes "strong no loop ") n

abbrev pub weak_line : WeakAnswer → List ℕ
weak_line WeakYes = codes "weak yes\n"
weak_line (WeakNo s n) = codes "weak no case " ++ (decimal s ++ numbered (codes " loop ") n)

abbrev pub dynamic_line : DynamicAnswer → List ℕ
dynamic_line DynamicYes = codes "dynamic yes\n"
dynamic_line DynamicNo = codes "dynamic no\n"

-- the line of a reply; a refusal is told by its number
abbrev pub reply_line : Reply → List ℕ
reply_line (Book (Ok a)) = taken_line a
reply_line (Book (Err r)) = numbered (codes "refused ") (book_number r)
reply_line (Strong (Ok a)) = strong_line a
reply_line (Strong (Err r)) = numbered (codes "strong refused ") (number r)
reply_line (Weak (Ok a)) = weak_line a
reply_line (Weak (Err r)) = numbered (codes "weak refused ") (number r)
reply_line (Dynamic (Ok a)) = dynamic_line a
reply_line (Dynamic (Err r)) = numbered (codes "dynamic refused ") (number r)
