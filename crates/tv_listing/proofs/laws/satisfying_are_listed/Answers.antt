use Rattle.tv_listing.proofs.Traces.{satisfying_are_listed}
use Rattle.tv_listing.proofs.laws.satisfying_are_listed.Goals as goal

pub returns : goal.returns
returns c = satisfying_are_listed
