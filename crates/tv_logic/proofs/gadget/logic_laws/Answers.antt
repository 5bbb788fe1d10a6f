use Rattle.tv_logic.proofs.LogicLaws.{logic_sound, logic_complete, logic_sizes}
use Rattle.tv_logic.proofs.gadget.logic_laws.Goals as goal

pub returns : goal.returns
returns c = record { sound = logic_sound; complete = logic_complete; sizes = logic_sizes }
