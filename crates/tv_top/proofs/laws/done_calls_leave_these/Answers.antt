use Rattle.tv_top.proofs.DoneLaws.{build_leads, witness_leads, check_leads, extract_leads}
use Rattle.tv_top.proofs.laws.done_calls_leave_these.Goals as goal

pub returns : goal.returns
returns c = record { build = build_leads; witness = witness_leads; check = check_leads; extract = extract_leads }
