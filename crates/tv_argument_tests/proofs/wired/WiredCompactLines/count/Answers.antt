use Rattle.tv_core.proofs.Common.{sym}
use Rattle.tv_argument_tests.proofs.Made.{eight}
use Rattle.tv_argument_tests.proofs.wired.WiredCompactLines.count.Goals as goal

pub returns : goal.returns
returns c = sym eight
