-- Our board as a program, and as operations: the rules with our equipment.
-- Assumes nothing.
use Rattle.rules.specs.Regions.{our_equipment}
use Rattle.causes.specs.Calls.{Program, ruled_by, Operations, operations_by}

abbrev pub ours : Program
ours = ruled_by our_equipment

abbrev pub our_operations : Operations
our_operations = operations_by our_equipment
