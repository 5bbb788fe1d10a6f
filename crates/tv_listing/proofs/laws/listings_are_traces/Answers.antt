use Rattle.tv_listing.proofs.Traces.{listing_is_trace}
use Rattle.tv_listing.proofs.laws.listings_are_traces.Goals as goal

pub returns : goal.returns
returns c = listing_is_trace
