use Rattle.tv_scan.proofs.ScanLaws.{scan_sound, scan_complete, scan_fill}
use Rattle.tv_scan.proofs.scans.scan_laws.Goals as goal

pub returns : goal.returns
returns c = record { sound = scan_sound; complete = scan_complete; sizes = scan_fill }
