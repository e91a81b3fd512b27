-- What is printed of a field that differs.
use Rattle.std.specs.Prelude.{ℕ, List, codes}
use Rattle.comparison.specs.declared.packets.Field.{Field}
use Rattle.comparison.specs.declared.packets.Field.TheVariants.{Presence, Code, Interface, Time, Content}

abbrev pub words_of : Field → List ℕ
words_of Presence = codes "only one of the packets has it"
words_of Code = codes "the code differs"
words_of Interface = codes "the interface differs"
words_of Time = codes "the time differs"
words_of Content = codes "what the record says differs"
