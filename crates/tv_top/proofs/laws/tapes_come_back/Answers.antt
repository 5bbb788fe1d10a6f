use Rattle.tv_core.proofs.Common.{arith}
use Rattle.tv_plan.proofs.TapeTexts.{tape_texts_fit, primary_comes_back, aux_comes_back, publics_come_back}
use Rattle.tv_top.proofs.TapesComeBack.{extracted_are_taken}
use Rattle.tv_top.proofs.laws.tapes_come_back.Goals as goal

pub returns : goal.returns
returns c = record {
  texts = tape_texts_fit;
  primary = primary_comes_back;
  aux = aux_comes_back;
  publics = publics_come_back;
  extracted = extracted_are_taken;
  steps = omega arith;
  answer = omega arith;
}
