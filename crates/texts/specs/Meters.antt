-- The text form of a meter: one number, its total.
use Rattle.std.specs.Prelude.{List, [], ◌∷◌}
use Rattle.fields.specs.Forms.{Item, num, Form, range, one}
use Rattle.kinds.specs.declared.meter.Meter.{Meter}

abbrev pub meter_form : Form
meter_form = one (range 0 4000000000)

abbrev pub meter_items : Meter → List Item
meter_items meter = num meter.total ∷ []
