-- Keys of identifiers, by which rules that begin with another identifier are passed.
use Rattle.std.specs.Prelude.{ℕ, ◌+◌, ◌*◌, ◌%◌, ◌^◌, List, [], ◌∷◌, map, Option, Some, None}
use Rattle.tt_data.specs.Forest.{Forest, leaf}
use Rattle.tt_data.specs.declared.leaf.Leaf.TheVariants as as_leaf
use Rattle.mbe_rules.specs.Items.{Items, item, word, Rule}

-- the key of a text, where these bytes are left
abbrev pub key_from : ℕ → List ℕ → ℕ
key_from k [] = k
key_from k (b ∷ bs) = key_from (((k * 31) % 2 ^ 32 + b) % 2 ^ 32) bs

-- the key of the identifier that a matcher begins with
abbrev pub first_key : Items → Option ℕ
first_key (item (word (as_leaf.Ident i)) rest) = Some (key_from 0 i.sym)
first_key _ = None

-- the key of the identifier that an argument begins with
abbrev pub name_key : Forest → Option ℕ
name_key (leaf (as_leaf.Ident i) rest) = Some (key_from 0 i.sym)
name_key _ = None

-- the keys of the identifiers that the matchers of rules begin with
abbrev pub keys_of : List Rule → List (Option ℕ)
keys_of rules = map (λ r. first_key r.pattern) rules
