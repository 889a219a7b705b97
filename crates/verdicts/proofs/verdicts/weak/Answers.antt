use Rattle.std.proofs.Common.{◌≡◌, ◌*◌, ◌<◌, ◌≤◌, length, drop, Ok, sym, refl, ap, ◌∙◌, subst, arith, length-drop}
use Rattle.book.specs.Held.{held, held_sound}
use Rattle.book.specs.Plain.{cases}
use Rattle.find.specs.Answers.{Looped}
use Rattle.grades.specs.Systems.{weak_system, weak_origins}
use Rattle.verdicts.specs.Filling.{Filled, WeakTables}
use Rattle.verdicts.specs.Searches.{part}
use Rattle.verdicts.specs.Verdicts.{WeakAnswered}
use Rattle.verdicts.proofs.Grades.{means, part_fits, never_short, weak_starts, weak_more, weak_loop, weak_listed}
use Rattle.verdicts.proofs.verdicts.weak.Goals as goal

pub loop-case-init : goal.loop-case-init
loop-case-init c = (weak_starts (held c.args.book.now) (held_sound c.args.book.now) _, refl, refl)

pub search_case-requires : goal.search_case-requires
search_case-requires c =
    let book = c.args.book.now in
    let is : c.loop-case.case < cases (held book) = omega (arith, c.cases-case-end.ensures) in
    omega (arith, part_fits (held book) (held_sound book) c.loop-case.case is, c.loop-case.invariant.2)

pub returns-in_err-found : goal.returns-in_err-found
returns-in_err-found c =
    let book = c.args.book.now in
    let b = held book in
    let s = c.loop-case.case in
    let is : s < cases b = omega (arith, c.cases-case-end.ensures) in
    let rest = length-drop (part b s) c.loop-case.table in
    let wide : length b.jobs ≤ length (drop (part b s) c.loop-case.table) =
    omega (arith, part_fits b (held_sound book) s is, c.loop-case.invariant.2) in
    let long : 20 ≤ length c.loop-case.loops = omega (arith, ap length c.loop-case.invariant.1) in
    absurd
    (never_short b (held_sound book) (weak_system b s) _ _ c.in_err-found.field-0.0 refl wide long c.in_err-found.ensures.said.0)

pub returns-in-Loop : goal.returns-in-Loop
returns-in-Loop c =
    let book = c.args.book.now in
    let b = held book in
    let s = c.loop-case.case in
    let is : s < cases b = omega (arith, c.cases-case-end.ensures) in
    let before = drop (part b s) c.loop-case.table in
    let after = drop (part b s) c.search_case.new.table in
    let loops = c.loop-case.loops in
    let loops_after = c.search_case.new.loops in
    let n = c.in-Loop.length in
    let said = means before after loops loops_after refl refl (ap Ok c.in-Loop.is) c.in_ok-found.ensures.said in
    let (none, lowest, looped) = weak_loop b (held_sound book) s c.loop-case.table before after loops loops_after n is c.loop-case.invariant.0 said in
    let first = subst (λ xs. Looped (weak_system b s) (weak_origins b s) xs loops_after n) c.loop-case.invariant.1 looped in
    subst (λ a. WeakAnswered b c.args.minutes.now c.args.minutes.now c.args.loops.now loops_after (Ok a)) (sym c.fails.ensures)
    ((omega (arith, c.size.ensures), c.if-loops-lt20.false), (none, lowest, first, refl))

pub loop-case-preserved : goal.loop-case-preserved
loop-case-preserved c =
    let book = c.args.book.now in
    let b = held book in
    let s = c.loop-case.case in
    let table = c.loop-case.table in
    let table-after = c.search_case.new.table in
    let loops = c.loop-case.loops in
    let loops_after = c.search_case.new.loops in
    let answer = c.in_ok-found.ensures in
    let said =
    means (drop (part b s) table) (drop (part b s) table-after) loops loops_after refl refl (ap Ok c.in-Table.is) answer.said in (
      weak_more b (held_sound book) s table table-after loops loops_after c.loop-case.invariant.0 said answer.front,
      said.3 ∙ c.loop-case.invariant.1,
      c.search_case.auto.table ∙ c.loop-case.invariant.2,
    )

pub fill-requires : goal.fill-requires
fill-requires c =
    let book = c.args.book.now in
    let long = ap length c.jobs.ensures in
    record {
      near = omega (arith, (held_sound book).few_jobs);
      within = λ s h. omega (arith, part_fits (held book) (held_sound book) s h, ap (λ n. s * n) long, c.loop-case.invariant.2);
      room = omega (arith, c.size.ensures);
    }

pub returns : goal.returns
returns c =
    let book = c.args.book.now in
    let b = held book in
    let found = c.loop-case.table in
    let all : c.loop-case.case ≡ cases b = omega (arith, c.cases-case-end.ensures) in
    let out = subst (λ n. Filled b found n c.args.minutes.now c.fill.new.minutes) (ap length c.jobs.ensures) c.fill.ensures in
    let tables = subst (λ s. WeakTables b s found) all c.loop-case.invariant.0 in (
      (omega (arith, c.size.ensures), c.if-loops-lt20.false),
      (weak_listed b (held_sound book) c.args.minutes.now c.fill.new.minutes found tables out, c.loop-case.invariant.1),
    )
