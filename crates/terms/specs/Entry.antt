-- An entry of a table: a position, or null, which is none (the field's no value). Zero steps is a position.
use Rattle.std.specs.Prelude.{ℤ, Option}

abbrev pub Entry : Type 0
Entry = Option ℤ
