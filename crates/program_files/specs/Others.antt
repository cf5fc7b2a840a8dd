-- Which words name which files of definitions. (Of this project.)
use Rattle.std.specs.Prelude.{◌≡◌, ◌≢◌, ℕ, ◌==◌, List, length, nat_lt, Option, Some, None}
use Rattle.std.specs.Prelude.{option_and_then, option_map, if◌then◌else◌}
use Rattle.std.specs.List.{after_first, before_first, position_or_len}
use Rattle.expander_sources.specs.Homes.{Home, home_named}
use Rattle.tt_data.specs.declared.edition.Edition.{Edition}
use Rattle.crate_picks.specs.Editions.{edition_name}
use Rattle.program_files.specs.declared.other.Other.{Other}
use Rattle.program_files.specs.declared.other.Other.TheVariants.{File, BadRoot, BadEdition}

-- what stands before and behind the first such byte, if there is one
abbrev pub split_at : ℕ → List ℕ → Option (List ℕ × List ℕ)
split_at c s =
    if nat_lt (position_or_len (λ b. b == c) s) (length s)
    then Some (before_first (λ b. b == c) s, after_first (λ b. b == c) s)
    else None

-- the root, the edition and the file of a word `ROOT@EDITION=FILE`
abbrev pub parts_of : List ℕ → Option (List ℕ × (List ℕ × List ℕ))
parts_of word =
    option_and_then (λ p. option_map (λ q. (q.0, (q.1, p.1))) (split_at 64 p.0)) (split_at 61 word)

-- the home with this root and the edition of this name
abbrev pub NamesHome : List ℕ → List ℕ → Option Home → Type 0
NamesHome root year home = (e : Edition) × (year ≡ edition_name e) × (home ≡ home_named root e)

-- what such parts name
abbrev pub MeantBy : List ℕ → Option (List ℕ × (List ℕ × List ℕ)) → Other → Type 0
MeantBy word None (File home file) = (home ≡ None) × (file.now ≡ word)
MeantBy word (Some (root, (year, path))) (File home file) =
    NamesHome root year home × (home ≢ None) × (file.now ≡ path)
MeantBy word (Some (root, (year, path))) (BadEdition text) =
    ((e : Edition) → year ≢ edition_name e) × (text.now ≡ year)
MeantBy word (Some (root, (year, path))) (BadRoot text) =
    NamesHome root year None × (text.now ≡ root)
MeantBy word _ _ = ⊥

-- what a word names
abbrev pub Meant : List ℕ → Other → Type 0
Meant word other = MeantBy word (parts_of word) other
