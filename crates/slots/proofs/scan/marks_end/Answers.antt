use Rattle.slots.proofs.scan.ScanLaws.{passed-next}
use Rattle.slots.proofs.scan.marks_end.Goals as goal

pub loop-byte-preserved : goal.loop-byte-preserved
loop-byte-preserved c = search passed-next
