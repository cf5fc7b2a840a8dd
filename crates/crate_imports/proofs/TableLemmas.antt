-- Names in tables.
use Rattle.std.proofs.Common.{◌≡◌, ℕ, zero, suc, ◌<◌, Bool, true, false, List, [], ◌∷◌, ◌++◌, length, Option, Some, None, refl, sym, ap, ◌∙◌, set, string_bytes, arith}
use Rattle.std.proofs.lemmas.Bool.{false_from_ne_true}
use Rattle.std.proofs.lemmas.Bool.Decides.{nat_tests}
use Rattle.std.proofs.Math.Dec.{eqb-suc-suc}
use Rattle.std.specs.Borrow.{Bor}
use Rattle.std.specs.Prelude.{OnOk, Result, Ok, Err, option_copied, ◌&&◌, nat_eq, String, if◌then◌else◌}
use Rattle.std.specs.BTreeMap.{BTreeMap, get_by_text}
use Rattle.std.specs.Global.{Global}
use Rattle.std.proofs.lemmas.Map.Text.{is_eq-slice_cmp}
use Rattle.std.proofs.lemmas.Slice.Eq.{bytes_eq-Decides}
use Rattle.std.specs.Cmp.Lexicographic.{slice_cmp}
use Rattle.std.specs.Option.{is_some, option_or}
use Rattle.std.specs.Ordering.{is_eq, nat_cmp}
use Rattle.std.specs.Str.{bytes_eq}
use Rattle.crate_imports.specs.Names.{Names, filled, put}
use Rattle.crate_imports.specs.Entries.{found_in}
use Rattle.crate_imports.specs.Tables.{names_in}
use Rattle.crate_imports.specs.declared.target.Target.{Target}

abbrev Map : Type 0
Map = BTreeMap (String Global) Target

-- a module without names adds none
pub one_more_at : (ms : List Map) (m : Map) → ((name : List ℕ) → get_by_text m name ≡ None) → (k : ℕ) (name : List ℕ)
    → names_in (ms ++ m ∷ []) k name ≡ names_in ms k name
one_more_at [] m none zero name = none name
one_more_at [] m none (suc k) name = refl
one_more_at (x ∷ xs) m none zero name = refl
one_more_at (x ∷ xs) m none (suc k) name = one_more_at xs m none k name

pub one_more : (ms : List Map) (m : Map) → ((name : List ℕ) → get_by_text m name ≡ None) → names_in (ms ++ m ∷ []) ≡ names_in ms
one_more ms m none = λ i k name. one_more_at ms m none k name i

-- a name of the module, and one of another
choice : (here same : Bool) (old : Option Target) (target : Target) → here ≡ true
    → (if same then Some target else old) ≡ (if here && same then Some target else old)
choice here same old target is = ap (λ (b : Bool). if b && same then Some target else old) (sym is)

other : (here same : Bool) (old : Option Target) (target : Target) → here ≡ false → (if here && same then Some target else old) ≡ old
other here same old target is = ap (λ (b : Bool). if b && same then Some target else old) is

-- one name of one module is put
pub put_at : (ms : List Map) (m : Map) (at : ℕ) (word : List ℕ) (target : Target) → at < length ms
    → ((name : List ℕ) → get_by_text m name ≡ (if bytes_eq word name then Some target else names_in ms at name)) → (k : ℕ) (name : List ℕ)
    → names_in (set ms at m) k name ≡ put (names_in ms) at word target k name
put_at [] m at word target within is k name = absurd (omega arith)
put_at (x ∷ xs) m zero word target within is zero name = is name ∙ choice (nat_eq 0 0) (bytes_eq word name) (get_by_text x name) target (grind (arith, nat_tests))
put_at (x ∷ xs) m zero word target within is (suc k) name = sym (other (nat_eq 0 (suc k)) (bytes_eq word name) (names_in xs k name) target (grind (arith, nat_tests)))
put_at (x ∷ xs) m (suc at) word target within is zero name = sym (other (nat_eq (suc at) 0) (bytes_eq word name) (get_by_text x name) target (grind (arith, nat_tests)))
put_at (x ∷ xs) m (suc at) word target within is (suc k) name =
    let less : at < length xs = omega arith in
    let same : nat_eq at k ≡ nat_eq (suc at) (suc k) = sym (eqb-suc-suc at k) in
    put_at xs m at word target less is k name ∙ ap (λ (b : Bool). if b && bytes_eq word name then Some target else names_in xs k name) same

pub is_put : (ms : List Map) (m : Map) (at : ℕ) (word : List ℕ) (target : Target) → at < length ms
    → ((name : List ℕ) → get_by_text m name ≡ (if bytes_eq word name then Some target else names_in ms at name))
    → names_in (set ms at m) ≡ put (names_in ms) at word target
is_put ms m at word target within is = λ i k name. put_at ms m at word target within is k name i

-- what a look-up lends, and what is there
pub absent : (o : Option (Bor Target)) → is_some o ≡ false → option_copied o ≡ None
absent None is = refl
absent (Some x) is = absurd (cc is)

pub present : (o : Option (Bor Target)) → is_some o ≡ true → is_some (option_copied o) ≡ true
present None is = absurd (cc is)
present (Some x) is = refl

-- what holds where a call succeeds gives more there
pub on_ok : {A E : Type 0} (r : Result A E) (P Q : Type 0) → (P → Q) → OnOk r P → OnOk r Q
on_ok (Ok a) P Q f p = f p
on_ok (Err e) P Q f p = tt

-- names of one module are filled
fill_here : (here : Bool) (old more : Option Target) → here ≡ true → option_or old more ≡ (if here then option_or old more else old)
fill_here here old more is = ap (λ (b : Bool). if b then option_or old more else old) (sym is)

fill_other : (here : Bool) (old more : Option Target) → here ≡ false → (if here then option_or old more else old) ≡ old
fill_other here old more is = ap (λ (b : Bool). if b then option_or old more else old) is

fill_at : (ms : List Map) (m : Map) (at : ℕ) (more : List ℕ → Option Target) → at < length ms
    → ((name : List ℕ) → get_by_text m name ≡ option_or (names_in ms at name) (more name)) → (k : ℕ) (name : List ℕ)
    → names_in (set ms at m) k name ≡ filled (names_in ms) at more k name
fill_at [] m at more within is k name = absurd (omega arith)
fill_at (x ∷ xs) m zero more within is zero name = is name ∙ fill_here (nat_eq 0 0) (get_by_text x name) (more name) (grind (arith, nat_tests))
fill_at (x ∷ xs) m zero more within is (suc k) name = sym (fill_other (nat_eq 0 (suc k)) (names_in xs k name) (more name) (grind (arith, nat_tests)))
fill_at (x ∷ xs) m (suc at) more within is zero name = sym (fill_other (nat_eq (suc at) 0) (get_by_text x name) (more name) (grind (arith, nat_tests)))
fill_at (x ∷ xs) m (suc at) more within is (suc k) name =
    let less : at < length xs = omega arith in
    let same : nat_eq at k ≡ nat_eq (suc at) (suc k) = sym (eqb-suc-suc at k) in
    fill_at xs m at more less is k name ∙ ap (λ (b : Bool). if b then option_or (names_in xs k name) (more name) else names_in xs k name) same

pub is_filled : (ms : List Map) (m : Map) (at : ℕ) (more : List ℕ → Option Target) → at < length ms
    → ((name : List ℕ) → get_by_text m name ≡ option_or (names_in ms at name) (more name))
    → names_in (set ms at m) ≡ filled (names_in ms) at more
is_filled ms m at more within is = λ i k name. fill_at ms m at more within is k name i

-- where there are no others nothing is filled
pub or_none : (o : Option Target) → option_or o None ≡ o
or_none None = refl
or_none (Some t) = refl

keeps : (here : Bool) (old more : Option Target) → more ≡ None → old ≡ (if here then option_or old more else old)
keeps true old more none = sym (or_none old) ∙ ap (option_or old) (sym none)
keeps false old more none = refl

pub fills_none : (names : Names) (at : ℕ) (more : List ℕ → Option Target) → ((name : List ℕ) → more name ≡ None) → names ≡ filled names at more
fills_none names at more none = λ i k name. keeps (nat_eq at k) (names k name) (more name) (none name) i

-- ---- one name more

abbrev key_is : List ℕ → List ℕ → Bool
key_is name word = is_eq (slice_cmp nat_cmp name word)

-- the name is this word, and what it stands for before and after
same_word : (name word : List ℕ) → key_is name word ≡ true → name ≡ word
same_word name word is = (bytes_eq-Decides name word).0 (sym (is_eq-slice_cmp name word) ∙ is)

has : (o a b : Option Target) → is_some o ≡ true → option_or o a ≡ option_or o b
has None a b is = absurd (cc is)
has (Some t) a b is = refl

kept_case : (b : Bool) (g : List ℕ → Option Target) (name word : List ℕ) (t : Target) (rest : Option Target) → key_is name word ≡ b
    → is_some (g word) ≡ true → option_or (g name) (if b then Some t else rest) ≡ option_or (g name) rest
kept_case true g name word t rest is some = has (g name) (Some t) rest (ap (λ n. is_some (g n)) (same_word name word is) ∙ some)
kept_case false g name word t rest is some = refl

-- a name that stood for something is kept
pub kept : (g : List ℕ → Option Target) (key : String Global) (t : Target) (es : List (String Global × Target)) (name : List ℕ)
    → is_some (g (string_bytes key)) ≡ true → option_or (g name) (found_in ((key, t) ∷ es) name) ≡ option_or (g name) (found_in es name)
kept g key t es name some = kept_case (key_is name (string_bytes key)) g name (string_bytes key) t (found_in es name) refl some

put_case : (b : Bool) (g h : List ℕ → Option Target) (name word : List ℕ) (t : Target) (rest : Option Target) → key_is name word ≡ b
    → g word ≡ None → h name ≡ (if bytes_eq word name then Some t else g name) → option_or (h name) rest ≡ option_or (g name) (if b then Some t else rest)
put_case true g h name word t rest is none put =
    let same : name ≡ word = same_word name word is in
    let yes : bytes_eq word name ≡ true = (bytes_eq-Decides word name).1 (sym same) in
    let some : h name ≡ Some t = put ∙ ap (λ (c : Bool). if c then Some t else g name) yes in
    let before : g name ≡ None = ap g same ∙ none in
    ap (λ (o : Option Target). option_or o rest) some ∙ sym (ap (λ (o : Option Target). option_or o (Some t)) before)
put_case false g h name word t rest is none put =
    let no : bytes_eq word name ≡ false = false_from_ne_true (bytes_eq word name) (λ e.
    let same : word ≡ name = (bytes_eq-Decides word name).0 e in
    let yes : key_is name word ≡ true = is_eq-slice_cmp name word ∙ (bytes_eq-Decides name word).1 (sym same) in
    absurd (cc (is, yes))) in
    ap (λ (o : Option Target). option_or o rest) (put ∙ ap (λ (c : Bool). if c then Some t else g name) no)

-- a name that stood for nothing is put
pub added : (g h : List ℕ → Option Target) (key : String Global) (t : Target) (es : List (String Global × Target)) (name : List ℕ)
    → g (string_bytes key) ≡ None → h name ≡ (if bytes_eq (string_bytes key) name then Some t else g name)
    → option_or (h name) (found_in es name) ≡ option_or (g name) (found_in ((key, t) ∷ es) name)
added g h key t es name none put = put_case (key_is name (string_bytes key)) g h name (string_bytes key) t (found_in es name) refl none put
