-- What the names of the code are in the model's words.
use Rattle.bay_model.specs.Model.{Role, single, selecting, calling, several, attribute, component, setting, withheld}
use Rattle.name_leaves.specs.declared.what.What.{What}
use Rattle.name_leaves.specs.declared.what.What.TheVariants as whats

abbrev pub role_seen : What → Role
role_seen (whats.Attribute x) = single (attribute x)
role_seen (whats.Component b k) = single (component b k)
role_seen (whats.Setting d k) = single (setting d k)
role_seen whats.Withheld = single withheld
role_seen (whats.Selecting k) = selecting k
role_seen (whats.Calling k call) = calling k call
role_seen whats.Structure = several
