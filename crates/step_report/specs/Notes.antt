-- What is told of notes: where rustc refuses a call that a rule gives something for. (Of this
-- project.)
use Rattle.std.specs.Prelude.{ℕ, List, [], ◌∷◌, ◌++◌, Option, Some, None, chars, codes, decimal}
use Rattle.std.specs.Prelude.{flat_map, map}
use Rattle.rule_bindings.specs.Notes.{Counted, Notes, Unequal}
use Rattle.step_report.specs.Bound.{told_number}
use Rattle.step_report.specs.Layout.{indent}
use Rattle.step_report.specs.Shown.{shown}

-- a note: which one it is, its words, the metavariables that it names, and the number of the rule
-- that it names, from 1, if it names one
pub record Note : Type 0 where
  pub kind : List ℕ
  pub words : List ℕ
  pub names : List (List ℕ)
  pub rule : Option ℕ

-- a metavariable in words
abbrev pub variable : List ℕ → List ℕ
variable n = codes "`$" ++ (shown (chars n) ++ codes "`")

-- a metavariable with its iterations
abbrev pub counted : Counted → List ℕ
counted c = decimal c.count ++ (codes " of " ++ variable c.name)

abbrev pub both : Unequal → List ℕ
both u = counted u.one ++ (codes " and " ++ counted u.other)

-- a rule before that is ambiguous
abbrev pub passed_note : ℕ → Note
passed_note number = record {
  kind = codes "PassedOver";
  words = codes "rule " ++ (decimal (told_number number)
      ++ codes " is ambiguous for this call, and is passed over; rustc stops there");
  names = [];
  rule = Some (told_number number);
}

-- a repetition whose metavariables have not as many iterations
abbrev pub unequal_words : Unequal → List ℕ
unequal_words u =
    codes "a repetition has " ++ (both u ++ codes ": the fewer count, and rustc refuses it")

abbrev pub unequal_note : Unequal → Note
unequal_note u = record {
  kind = codes "Unequal";
  words = unequal_words u;
  names = u.one.name ∷ u.other.name ∷ [];
  rule = None;
}

-- a metavariable that nothing binds
abbrev pub unbound_note : List ℕ → Note
unbound_note n = record {
  kind = codes "Unbound";
  words = codes "nothing binds " ++ (variable n ++ codes ", which stays as it is");
  names = n ∷ [];
  rule = None;
}

abbrev pub passed_notes : Option ℕ → List Note
passed_notes None = []
passed_notes (Some number) = passed_note number ∷ []

abbrev pub unequal_notes : Option Unequal → List Note
unequal_notes None = []
unequal_notes (Some u) = unequal_note u ∷ []

-- all, in this order
abbrev pub notes_of : Notes → List Note
notes_of n = passed_notes n.passed_over ++ (unequal_notes n.unequal ++ map unbound_note n.unbound)

-- the line of one
abbrev pub note_line : ℕ → Note → List ℕ
note_line level n =
    codes "       " ++ (indent level ++ (codes "note: " ++ (n.words ++ (10 ∷ []))))

-- the lines of all
abbrev pub note_lines : ℕ → Notes → List ℕ
note_lines level n = flat_map (note_line level) (notes_of n)
