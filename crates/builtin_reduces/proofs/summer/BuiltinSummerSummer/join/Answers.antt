use Rattle.std.proofs.Common.{refl}
use Rattle.std.proofs.lemmas.Result.{IfOk-weaker}
use Rattle.builtin_reduces.proofs.Caused.{caused}
use Rattle.builtin_reduces.proofs.Joinable.{joined_value}
use Rattle.builtin_reduces.proofs.summer.BuiltinSummerSummer.join.Goals as goal

pub returns-clause-value : goal.returns-clause-value
returns-clause-value c = IfOk-weaker c.join.result _ _ (joined_value c.args.self.now.kind c.args.parts.now) c.join.ensures.value

pub returns-clause-cause : goal.returns-clause-cause
returns-clause-cause c = caused c.args.self.now _ c.args.self.now.kind c.join.result refl c.join.ensures.free
