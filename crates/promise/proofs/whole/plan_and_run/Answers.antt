use Rattle.std.proofs.Common.{◌≡◌, Option, vec_items, sym, subst}
use Rattle.book.specs.Held.{held}
use Rattle.book.specs.Plain.{new_book}
use Rattle.runs.specs.declared.ending.Walked.{Walked}
use Rattle.promise.specs.Serving.{desk, AllServed}
use Rattle.promise.specs.Whole.{RunKept}
use Rattle.promise.proofs.Requests.{plan_served}
use Rattle.promise.proofs.whole.plan_and_run.Goals as goal
use Rattle.promise.proofs.whole.plan_and_run.Goals.{in-Yes, in-No}

pub returns : goal.returns
returns g c =
    let requests = c.args.requests.now in
    let book = c.serve_all.new.book in
    let after = desk (held book) c.serve_all.new.minutes c.serve_all.new.loops in
    let fresh : held c.in_ok-book.book ≡ new_book = c.in_ok-book.ensures in
    let begun = desk new_book c.args.minutes.now c.args.loops.now in
    let replies = vec_items c.serve_all.new.replies in
    let served : AllServed begun requests replies after =
    subst (λ b. AllServed (desk b c.args.minutes.now c.args.loops.now) requests replies after) fresh c.serve_all.ensures in
    let P : Option Walked → Type 0 = λ r. RunKept (held book) c.args.outcomes.now r in
    record {
      served = served;
      book = plan_served begun requests replies after served;
      found = c.find-found.ensures;
      run = elim c.match-make_ready.branch [
        | in-Yes w ↦ subst P (sym w.run-is) (record {
          sheet = c.make_ready.new.self;
          same_plan = w.in-Yes.ensures.0;
          ready = w.in-Yes.ensures.1;
          walks = w.walk.ensures;
        })
        | in-No w ↦ subst P (sym w.run-is) w.in-No.ensures.0
      ];
    }
