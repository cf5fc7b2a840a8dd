-- The tokens of a text as the code has them.
use Rattle.std.specs.Prelude.{List, map}
use Rattle.code_layout.specs.Words.{Word}
use Rattle.code_layout.specs.declared.words.Placed.{Placed}

abbrev pub word_of : Placed → Word
word_of p = record { kind = p.kind; text = p.text.now; joined = p.joined }

abbrev pub all_words : List Placed → List Word
all_words = map word_of
