-- An error of the parser as one of a read: want of memory stays that.
use Rattle.yaml_small.specs.declared.error.ScanError.{ScanError}
use Rattle.yaml_small.specs.declared.error.ScanError.TheVariants as scans
use Rattle.yaml_read.specs.declared.error.DeError.{DeError}
use Rattle.yaml_read.specs.declared.error.DeError.TheVariants as errors

abbrev pub from_scan : ScanError → DeError
from_scan scans.Memory = errors.Memory
from_scan (scans.Form marker) = errors.Scan (scans.Form marker)
from_scan (scans.NotCarried marker) = errors.Scan (scans.NotCarried marker)
from_scan (scans.TooDeep marker) = errors.Scan (scans.TooDeep marker)
