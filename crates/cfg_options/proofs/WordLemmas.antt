-- Options as they are written.
use Rattle.std.proofs.Common.{◌≡◌, ℕ, Bool, true, false, List, Option, Some, ap, ◌∙◌}
use Rattle.std.specs.Prelude.{unwrap_or}
use Rattle.tt_data.specs.Forest.{Forest, empty, leaf, group}
use Rattle.tt_data.specs.Literals.{LiteralParts}
use Rattle.tt_data.specs.declared.leaf.Ident.{Ident}
use Rattle.tt_data.specs.declared.leaf.Leaf.TheVariants as as_leaf
use Rattle.bridge.specs.tt.FirstTrees.{first_ident}
use Rattle.bridge.specs.Text.{is_char}
use Rattle.small_grammar.specs.Text.{◌>>=◌, ◌>>◌}
use Rattle.cfg_options.specs.Conditions.{is_option_name, option_in}
use Rattle.cfg_options.specs.Lists.{value_in}
use Rattle.cfg_options.specs.Strings.{string_text}

abbrev pub named : Ident → Forest → Option (Ident × Forest)
named name rest = Some (name, rest)

abbrev pub valued : List ℕ → List ℕ → Option (List ℕ × Option (List ℕ))
valued name value = Some (name, Some value)

ident_first : (f : Forest) (name : Ident) (rest : Forest) → first_ident f ≡ named name rest → f ≡ leaf (as_leaf.Ident name) rest
ident_first (leaf (as_leaf.Ident i) r) name rest e =
    let front : Option (Ident × Forest) → Ident = λ z. (unwrap_or z (i, r)).0 in
    let back : Option (Ident × Forest) → Forest = λ z. (unwrap_or z (i, r)).1 in
    ap (λ x. leaf (as_leaf.Ident x) r) (ap front e) ∙ ap (leaf (as_leaf.Ident name)) (ap back e)
ident_first (leaf (as_leaf.Punct p) r) name rest e = absurd (cc e)
ident_first (leaf (as_leaf.Literal l) r) name rest e = absurd (cc e)
ident_first (group d inner r) name rest e = absurd (cc e)
ident_first empty name rest e = absurd (cc e)

-- an option with a value, if the string has one
abbrev pub with_string : List ℕ → Option (List ℕ) → Option (List ℕ × Option (List ℕ))
with_string name text = text >>= λ value. valued name value

by_string : (b : Bool) (m l : LiteralParts) (name : List ℕ) → b >> Some m ≡ Some l
    → b >> with_string name (string_text m) ≡ with_string name (string_text l)
by_string true m l name e =
    let same : m ≡ l = cc e in
    ap (λ x. with_string name (string_text x)) same
by_string false m l name e = absurd (cc e)

with_value : (name : Ident) (rest : Forest) (l : LiteralParts) → is_option_name name ≡ true → value_in rest ≡ Some l
    → option_in string_text (leaf (as_leaf.Ident name) rest) ≡ with_string name.sym (string_text l)
with_value name (leaf (as_leaf.Punct p) (leaf (as_leaf.Literal m) empty)) l n e =
    ap (λ b. b >> (is_char "=" p >> with_string name.sym (string_text m))) n ∙ by_string (is_char "=" p) m l name.sym e
with_value name (leaf (as_leaf.Punct p) (leaf (as_leaf.Literal m) (leaf k r))) l n e = absurd (cc e)
with_value name (leaf (as_leaf.Punct p) (leaf (as_leaf.Literal m) (group d a r))) l n e = absurd (cc e)
with_value name (leaf (as_leaf.Punct p) (leaf (as_leaf.Ident i) r)) l n e = absurd (cc e)
with_value name (leaf (as_leaf.Punct p) (leaf (as_leaf.Punct q) r)) l n e = absurd (cc e)
with_value name (leaf (as_leaf.Punct p) (group d a r)) l n e = absurd (cc e)
with_value name (leaf (as_leaf.Punct p) empty) l n e = absurd (cc e)
with_value name (leaf (as_leaf.Ident i) r) l n e = absurd (cc e)
with_value name (leaf (as_leaf.Literal m) r) l n e = absurd (cc e)
with_value name (group d a r) l n e = absurd (cc e)
with_value name empty l n e = absurd (cc e)

-- a name, `=` and a literal
pub valued_is : (f : Forest) (name : Ident) (rest : Forest) (l : LiteralParts) (text : Option (List ℕ))
    → first_ident f ≡ named name rest → is_option_name name ≡ true → value_in rest ≡ Some l → string_text l ≡ text
    → option_in string_text f ≡ with_string name.sym text
valued_is f name rest l text e n h s =
    ap (option_in string_text) (ident_first f name rest e) ∙ with_value name rest l n h ∙ ap (with_string name.sym) s
