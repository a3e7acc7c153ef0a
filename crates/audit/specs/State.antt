-- What the code keeps of a report that is read.
use Rattle.audit.specs.Told.{At, at_point}
use Rattle.audit.specs.declared.told.Told.{Told}

-- how far the report was told
abbrev pub at_of : Told → At
at_of told = at_point told.point told.done.items told.journal told.halt told.asked.items
