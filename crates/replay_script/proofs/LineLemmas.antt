-- Lines that are written one after another, and replacements that are read byte by byte.
use Rattle.std.proofs.Common.{◌≡◌, ℕ, ◌+◌, ◌<◌, List, [], ◌∷◌, ◌++◌, length, drop, refl, sym, ap, ◌∙◌, append_assoc, append-nil, get_or, Bool, true, false, arith, length-append}
use Rattle.std.specs.Prelude.{Option, Some, None, flat_map, option_map, option_and_then, slice_get, zero, suc, if◌then◌else◌}
use Rattle.std.proofs.lemmas.List.{drop_more}
use Rattle.replay_script.specs.LineReads.{left_of}
use Rattle.replay_script.specs.Words.{escape_of, is_backslash, unescaped, unescaped_behind}

-- one more is told
pub one_more : {X : Type 0} (told : X → List ℕ) (xs : List X) (i : ℕ) (x : X) (old new all : List ℕ) → i < length xs
    → old ++ flat_map told (drop i xs) ≡ all → new ≡ old ++ told (get_or xs i x) → new ++ flat_map told (drop (i + 1) xs) ≡ all
one_more told xs i x old new all inside so_far added =
    let rest = flat_map told (drop (i + 1) xs) in
    ap (λ (t : List ℕ). t ++ rest) added ∙ append_assoc old (told (get_or xs i x)) rest
    ∙ sym (ap (λ ys. old ++ flat_map told ys) (drop_more xs i x inside)) ∙ so_far

-- all are told
pub all_of : {X : Type 0} (told : X → List ℕ) (rest : List X) (now all : List ℕ) → rest ≡ [] → now ++ flat_map told rest ≡ all → now ≡ all
all_of told rest now all none so_far = sym (append-nil now) ∙ ap (λ ys. now ++ flat_map told ys) (sym none) ∙ so_far

-- what is left is shorter
pub shorter : (text front more : List ℕ) (mark : ℕ) → text ≡ front ++ mark ∷ more → length more < length text
shorter text front more mark is = let size = ap length is ∙ length-append front (mark ∷ more) in omega (arith, size)

behind_one : (bytes : List ℕ) (b : ℕ) (o : Option (List ℕ)) → option_map (λ m. bytes ++ m) (option_map (λ m. b ∷ m) o) ≡ option_map (λ m. (bytes ++ b ∷ []) ++ m) o
behind_one bytes b None = refl
behind_one bytes b (Some m) = ap Some (sym (append_assoc bytes (b ∷ []) m))

-- a byte that stands for itself
pub left_plain : (bytes rest : List ℕ) (b : ℕ) → is_backslash b ≡ false → left_of false bytes (b ∷ rest) ≡ left_of false (bytes ++ b ∷ []) rest
left_plain bytes rest b plain =
    ap (λ (c : Bool). option_map (λ m. bytes ++ m) (if c then unescaped_behind true rest else option_map (λ m. b ∷ m) (unescaped_behind false rest))) plain
    ∙ behind_one bytes b (unescaped_behind false rest)

-- a backslash
pub left_backslash : (bytes rest : List ℕ) (b : ℕ) → is_backslash b ≡ true → left_of false bytes (b ∷ rest) ≡ left_of true bytes rest
left_backslash bytes rest b is =
    ap (λ (c : Bool). option_map (λ m. bytes ++ m) (if c then unescaped_behind true rest else option_map (λ m. b ∷ m) (unescaped_behind false rest))) is

-- a byte behind a backslash
pub left_meant : (bytes rest : List ℕ) (b meant : ℕ) → escape_of b ≡ Some meant → left_of true bytes (b ∷ rest) ≡ left_of false (bytes ++ meant ∷ []) rest
left_meant bytes rest b meant is =
    ap (λ (o : Option ℕ). option_map (λ m. bytes ++ m) (option_and_then (λ byte. option_map (λ m. byte ∷ m) (unescaped_behind false rest)) o)) is
    ∙ behind_one bytes meant (unescaped_behind false rest)

-- nothing is left
pub left_nothing : (bytes rest : List ℕ) (is_escape : Bool) → is_escape ≡ false → rest ≡ [] → left_of is_escape bytes rest ≡ Some bytes
left_nothing bytes rest is_escape plain none =
    ap (λ (c : Bool). left_of c bytes rest) plain ∙ ap (λ (r : List ℕ). left_of false bytes r) none ∙ ap Some (append-nil bytes)

-- a byte for which nothing is left
pub none_left : (items text : List ℕ) → items ≡ text → (i : ℕ) (is_escape : Bool) (bytes : List ℕ) → i < length items
    → left_of is_escape bytes (drop i text) ≡ unescaped text → ((rest : List ℕ) → left_of is_escape bytes (get_or items i 0 ∷ rest) ≡ None) → None ≡ unescaped text
none_left items text same i is_escape bytes inside so_far none =
    sym (none (drop (i + 1) items))
    ∙ ap (λ (r : List ℕ). left_of is_escape bytes r) (sym (drop_more items i 0 inside) ∙ ap (drop i) same)
    ∙ so_far

-- what is got at a number is there
pub got : {X : Type 0} (xs : List X) (i : ℕ) (d x : X) → slice_get xs i ≡ Some x → get_or xs i d ≡ x
got [] i d x h = absurd (cc h)
got (y ∷ xs) zero d x h = cc h
got (y ∷ xs) (suc i) d x h = got xs i d x h
