use Rattle.std.proofs.Common.{[], refl, arith}
use Rattle.walks.specs.Logs.{NoneAwaited}
use Rattle.walks.proofs.Laws.{lawful_keep_law}
use Rattle.walks.proofs.Sets.{bit_of_none}
use Rattle.book.specs.Plain.{Plain, asking}
use Rattle.runs.specs.Sheets.{plan, times}
use Rattle.runs.proofs.sheet.RunSheet.set_out.Goals as goal

idle : (b : Plain) → NoneAwaited b []
idle b c a = let z = bit_of_none (asking b c) in let e = a.1 in omega arith

pub returns : goal.returns
returns c =
    record {
      run = record { on_sheet = refl; has_log = c.new.ensures; law = lawful_keep_law (plan c.args.self.now) (times c.args.self.now) [] tt };
      idle = idle (plan c.args.self.now);
    }
