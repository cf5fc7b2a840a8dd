-- Puncts that are glued to one operator. (The Rust Reference, "Tokens": punctuation.)
use Rattle.std.specs.Prelude.{ℕ, Bool, true, false, ◌&&◌, ◌||◌, not, nat_eq, codes, if◌then◌else◌, List, [], ◌∷◌, length, Option, Some, None}
use Rattle.std.specs.List.{list_any}
use Prim.Native.String.{String}
use Rattle.tt_data.specs.Forest.{Forest, leaf}
use Rattle.tt_data.specs.declared.leaf.Leaf.TheVariants as as_leaf
use Rattle.tt_data.specs.declared.leaf.Punct.{Punct}
use Rattle.tt_data.specs.declared.leaf.Spacing.{Spacing}
use Rattle.tt_data.specs.declared.leaf.Spacing.TheVariants.{Alone, Joint}
use Rattle.tt.specs.FirstTrees.{first_punct}

-- the character is one of these
abbrev pub is_one_of : String → ℕ → Bool
is_one_of cs c = list_any (λ d. nat_eq c d) (codes cs)

-- two characters that make one operator
abbrev pub is_two : ℕ → ℕ → Bool
is_two a b =
    (is_one_of "=" b && is_one_of "-!*/&%^+<=>|" a)
    || ((is_one_of ">" b && is_one_of "-=>" a) || ((is_one_of "-" b && is_one_of "<" a)
    || ((is_one_of ":" b && is_one_of ":" a) || ((is_one_of "." b && is_one_of "." a)
    || ((is_one_of "&" b && is_one_of "&" a) || ((is_one_of "<" b && is_one_of "<" a) || (is_one_of "|" b && is_one_of "|" a)))))))

-- three characters that make one operator: `...`, `..=`, `<<=`, `>>=`
abbrev pub is_three : ℕ → ℕ → ℕ → Bool
is_three a b c =
    (is_one_of "." a && (is_one_of "." b && is_one_of ".=" c))
    || ((is_one_of "<" a && (is_one_of "<" b && is_one_of "=" c)) || (is_one_of ">" a && (is_one_of ">" b && is_one_of "=" c)))

-- a punct that no other follows
abbrev pub is_alone : Spacing → Bool
is_alone Alone = true
is_alone _ = false

-- a punct that another follows
abbrev pub is_joint : Spacing → Bool
is_joint Joint = true
is_joint _ = false

-- two puncts that are glued to one operator
abbrev pub is_pair : Punct → Punct → Bool
is_pair p q = not (is_alone p.spacing) && is_two p.char q.char

-- three puncts that are glued to one operator
abbrev pub is_triple : Punct → Punct → Punct → Bool
is_triple p q r = not (is_alone p.spacing) && (is_joint q.spacing && is_three p.char q.char r.char)

-- what two puncts begin, with the trees after it: an operator of both, or the first punct
abbrev pub glued_two : Punct → Forest → Punct → Forest → List Punct × Forest
glued_two p behind_one q behind_two = if is_pair p q then (p ∷ q ∷ [], behind_two) else (p ∷ [], behind_one)

-- what they begin if a third punct may follow
abbrev pub glued_third : Punct → Forest → Punct → Forest → Option (Punct × Forest) → List Punct × Forest
glued_third p behind_one q behind_two None = glued_two p behind_one q behind_two
glued_third p behind_one q behind_two (Some (r, rest)) =
    if is_triple p q r then (p ∷ q ∷ r ∷ [], rest) else glued_two p behind_one q behind_two

-- the longest operator that a punct begins, if a second may follow
abbrev pub glued_second : Punct → Forest → Option (Punct × Forest) → List Punct × Forest
glued_second p rest None = (p ∷ [], rest)
glued_second p rest (Some (q, behind)) = glued_third p rest q behind (first_punct behind)

-- the longest operator that a punct begins before these trees, with the trees after it
abbrev pub glued_at : Punct → Forest → List Punct × Forest
glued_at p rest = glued_second p rest (first_punct rest)

-- the operator that a list of trees begins with, with the trees after it
abbrev pub first_glued : Forest → Option (List Punct × Forest)
first_glued (leaf (as_leaf.Punct p) rest) = Some (glued_at p rest)
first_glued _ = None

-- how many puncts are glued, if any are
abbrev pub punct_count : Option (List Punct × Forest) → ℕ
punct_count None = 0
punct_count (Some glued) = length glued.0

-- how many puncts at the front of a list are glued to one operator: 0 if another tree comes first
abbrev pub glued_count : Forest → ℕ
glued_count f = punct_count (first_glued f)

-- the characters of puncts
abbrev pub characters : List Punct → List ℕ
characters [] = []
characters (p ∷ ps) = p.char ∷ characters ps
