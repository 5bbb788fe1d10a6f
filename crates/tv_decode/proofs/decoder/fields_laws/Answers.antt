use Rattle.tv_decode.proofs.FieldsLaws.{fields_sound, fields_complete, fields_sizes}
use Rattle.tv_decode.proofs.decoder.fields_laws.Goals as goal

pub returns : goal.returns
returns c = record { sound = fields_sound; complete = fields_complete; sizes = fields_sizes }
