-- Identifiers that stand for the roots of crates, and names that don't.
use Rattle.std.proofs.Common.{◌≡◌, ℕ, ◌<◌, ◌^◌, Bool, true, false, ◌&&◌, ◌||◌, List, [], ◌∷◌, ◌++◌, length, drop, refl, sym, ap, ◌∙◌, arith, if◌then◌else◌}
use Rattle.std.specs.List.{starts_with}
use Rattle.std.specs.Prelude.{codes, Option, Some, None, nat_eq, nat_lt, not, unwrap_or}
use Rattle.std.specs.Char.{encode_utf8}
use Rattle.std.specs.Str.{bytes_eq, chars, is_utf8}
use Rattle.std.proofs.lemmas.Bool.{and_parts}
use Rattle.std.proofs.lemmas.Bool.Decides.{nat_tests}
use Rattle.std.proofs.lemmas.Slice.Eq.{bytes_eq-Decides}
use Rattle.std.proofs.lemmas.Str.{IsUtf8-from_ascii, chars-append}
use Rattle.std.proofs.lemmas.Str.Ascii.{IsAscii-cons, IsAscii-nil}
use Rattle.ucd_derived.specs.Binary.{is_xid_start, is_xid_continue}
use Rattle.ucd_derived.specs.XidContinueRanges.{xid_continue_ranges}
use Rattle.ucd_derived.specs.XidStartRanges.{xid_start_ranges}
use Rattle.ucd_table.specs.Rows.{in_ranges}
use Rattle.rustc_lexer.specs.Character.{is_ident}
use Rattle.tt_data.specs.declared.leaf.Ident.{Ident}
use Rattle.tt_data.specs.declared.leaf.IdentIsRaw.{IdentIsRaw}
use Rattle.tt_data.specs.declared.leaf.IdentIsRaw.TheVariants as is_raw
use Rattle.tt_data.specs.declared.leaf.Leaf.TheVariants as as_leaf
use Rattle.bridge.specs.Spelling.{behind_mark, is_rooted, root_mark, root_name, same_rawness, spelled_leaf}
use Rattle.rustc_lexer.proofs.TestLemmas.{no}

abbrev begins_with_dollar : List ℕ → Bool
begins_with_dollar s = starts_with nat_eq s (codes "$")

same_nat : (m n : ℕ) → nat_eq m n ≡ true → m ≡ n
same_nat m n h = grind (arith, nat_tests)

-- ---- what begins with the mark begins with `$` and goes on

pub record IsDollar (s : List ℕ) : Type 0 where
  pub rest : List ℕ
  pub is : s ≡ codes "$c" ++ rest

marked : (s : List ℕ) → starts_with nat_eq s root_mark ≡ true → IsDollar s
marked [] h = no h
marked (x ∷ []) h = (let parts = and_parts (nat_eq 36 x) _ h in no parts.1)
marked (x ∷ y ∷ rest) h =
    let first = and_parts (nat_eq 36 x) _ h in
    let second = and_parts (nat_eq 99 y) _ first.1 in
    let a : 36 ≡ x = same_nat 36 x first.0 in
    let b : 99 ≡ y = same_nat 99 y second.0 in
    record { rest = rest; is = ap (λ n. n ∷ y ∷ rest) (sym a) ∙ ap (λ n. 36 ∷ n ∷ rest) (sym b) }

pub rooted_is : (s : List ℕ) → is_rooted s ≡ true → IsDollar s
rooted_is s h =
    let long = and_parts (nat_lt (length s) (2 ^ 32)) _ h in
    let mark = and_parts (starts_with nat_eq s root_mark) _ long.1 in
    marked s mark.0

dollar_begins : (s : List ℕ) → IsDollar s → begins_with_dollar s ≡ true
dollar_begins s d = ap begins_with_dollar d.is

-- ---- names that stand for no root

pub no_root : (i : Ident) → begins_with_dollar i.sym ≡ false → root_name i ≡ None
no_root i h = by_raw (same_rawness i.is_raw is_raw.No)
  where
    by_mark : (u : Bool) → is_rooted i.sym ≡ u → (if u then Some (drop 7 i.sym) else None) ≡ None
    by_mark false e = refl
    by_mark true e = no (sym h ∙ dollar_begins i.sym (rooted_is i.sym e))

    by_name : (u : Bool) → bytes_eq i.sym (codes "$crate") ≡ u → (if u then Some (codes "crate") else behind_mark i.sym) ≡ None
    by_name false e = by_mark (is_rooted i.sym) refl
    by_name true e = no (sym h ∙ ap begins_with_dollar ((bytes_eq-Decides i.sym (codes "$crate")).0 e))

    by_raw : (u : Bool) → (if u then (if bytes_eq i.sym (codes "$crate") then Some (codes "crate") else behind_mark i.sym) else None) ≡ None
    by_raw true = by_name (bytes_eq i.sym (codes "$crate")) refl
    by_raw false = refl

-- ---- the name of a root

-- it stands for no root itself, it is no keyword of definitions, and it is short
pub record IsRootName (i : Ident) (name : List ℕ) : Type 0 where
  pub plain : i.is_raw ≡ is_raw.No
  pub dollar : IsDollar i.sym
  pub front : begins_with_dollar name ≡ false
  pub word : (bytes_eq name (codes "macro_rules") || bytes_eq name (codes "macro")) ≡ false
  pub short : length i.sym < 2 ^ 32

not_true : (b : Bool) → not b ≡ true → b ≡ false
not_true true h = no h
not_true false h = refl

crate_short : (s : List ℕ) → s ≡ codes "$crate" → length s < 2 ^ 32
crate_short s e = (let six : length s ≡ 6 = ap length e in omega (arith, six))

low : (n m : ℕ) → nat_lt n m ≡ true → n < m
low n m e = grind (arith, nat_tests)

behind_parts : (i : Ident) (name : List ℕ) → i.is_raw ≡ is_raw.No → is_rooted i.sym ≡ true → drop 7 i.sym ≡ name → IsRootName i name
behind_parts i name plain h is =
    let long = and_parts (nat_lt (length i.sym) (2 ^ 32)) _ h in
    let mark = and_parts (starts_with nat_eq i.sym root_mark) _ long.1 in
    let text = and_parts (not (begins_with_dollar (drop 7 i.sym))) _ mark.1 in
    record {
      plain = plain;
      dollar = marked i.sym mark.0;
      front = ap begins_with_dollar (sym is) ∙ not_true _ text.0;
      word = ap (λ n. bytes_eq n (codes "macro_rules") || bytes_eq n (codes "macro")) (sym is) ∙ not_true _ text.1;
      short = low (length i.sym) (2 ^ 32) long.0;
    }

pub named : (i : Ident) (name : List ℕ) → root_name i ≡ Some name → IsRootName i name
named i name h = by_raw i.is_raw refl h
  where
    by_mark : i.is_raw ≡ is_raw.No → (u : Bool) → is_rooted i.sym ≡ u → (if u then Some (drop 7 i.sym) else None) ≡ Some name → IsRootName i name
    by_mark plain false e k = absurd (cc)
    by_mark plain true e k = behind_parts i name plain e (cc)

    by_name : i.is_raw ≡ is_raw.No → (u : Bool) → bytes_eq i.sym (codes "$crate") ≡ u
        → (if u then Some (codes "crate") else behind_mark i.sym) ≡ Some name → IsRootName i name
    by_name plain false e k = by_mark plain (is_rooted i.sym) refl k
    by_name plain true e k =
        let is : codes "crate" ≡ name = cc in
        let same : i.sym ≡ codes "$crate" = (bytes_eq-Decides i.sym (codes "$crate")).0 e in
        record {
          plain = plain;
          dollar = record { rest = codes "rate"; is = same };
          front = ap begins_with_dollar (sym is);
          word = ap (λ n. bytes_eq n (codes "macro_rules") || bytes_eq n (codes "macro")) (sym is);
          short = crate_short i.sym same;
        }

    by_raw : (r : IdentIsRaw) → i.is_raw ≡ r
        → (if same_rawness r is_raw.No then (if bytes_eq i.sym (codes "$crate") then Some (codes "crate") else behind_mark i.sym) else None) ≡ Some name
        → IsRootName i name
    by_raw is_raw.No plain k = by_name plain (bytes_eq i.sym (codes "$crate")) refl k
    by_raw is_raw.Yes plain k = absurd (cc)

-- ---- as they are spelled

-- a root's name depends on text and rawness alone
pub root_as : (a b : Ident) → a.is_raw ≡ b.is_raw → a.sym ≡ b.sym → root_name a ≡ root_name b
root_as a b raw text =
    ap (λ (r : IdentIsRaw). root_name (record a { is_raw = r })) raw
    ∙ ap (λ (s : List ℕ). root_name (record a { sym = s; is_raw = b.is_raw })) text

-- what stands for no root is spelled as it is
pub stays : (j : Ident) → root_name j ≡ None → spelled_leaf (as_leaf.Ident j) ≡ as_leaf.Ident j
stays j h = ap (λ (o : Option (List ℕ)). as_leaf.Ident (record j { sym = unwrap_or o j.sym })) h

-- the name as which a root is spelled
abbrev pub spelled_name : Ident → Ident
spelled_name i = record i { sym = unwrap_or (root_name i) i.sym }

-- that name stands for no root
pub root_once : (i : Ident) → root_name (spelled_name i) ≡ None
root_once i = go (root_name i) refl
  where
    go : (o : Option (List ℕ)) → root_name i ≡ o → root_name (record i { sym = unwrap_or o i.sym }) ≡ None
    go None h = h
    go (Some name) h = no_root (record i { sym = name }) (named i name h).front

-- ---- identifiers

dollar_alone : chars (codes "$") ≡ 36 ∷ []
unfolding chars is_utf8 encode_utf8
dollar_alone = refl

dollar_c : chars (codes "$c") ≡ 36 ∷ 99 ∷ []
unfolding chars is_utf8 encode_utf8
dollar_c = refl

dollar_ascii : (rest : List ℕ) → chars (codes "$" ++ rest) ≡ 36 ∷ chars rest
dollar_ascii rest =
    chars-append (codes "$") rest (IsUtf8-from_ascii (codes "$") (IsAscii-cons 36 [] (omega arith) IsAscii-nil)) ∙ ap (λ l. l ++ chars rest) dollar_alone

pub dollar_chars : (rest : List ℕ) → chars (codes "$c" ++ rest) ≡ 36 ∷ 99 ∷ chars rest
dollar_chars rest =
    chars-append (codes "$c") rest (IsUtf8-from_ascii (codes "$c") (IsAscii-cons 36 (99 ∷ []) (omega arith) (IsAscii-cons 99 [] (omega arith) IsAscii-nil)))
    ∙ ap (λ l. l ++ chars rest) dollar_c

no_start : (cs : List ℕ) → is_ident (36 ∷ cs) ≡ false
unfolding is_xid_start is_xid_continue in_ranges xid_start_ranges xid_continue_ranges
no_start cs = refl

-- an identifier does not begin with `$`
pub ident_front : (s : List ℕ) → is_ident (chars s) ≡ true → begins_with_dollar s ≡ false
ident_front s h = go s h
  where
    at_first : (u : Bool) (x : ℕ) (xs : List ℕ) → nat_eq 36 x ≡ u → is_ident (chars (x ∷ xs)) ≡ true → (u && true) ≡ false
    at_first false x xs e k = refl
    at_first true x xs e k =
        let first : 36 ≡ x = same_nat 36 x e in
        no (sym (ap (λ n. is_ident (chars (n ∷ xs))) (sym first) ∙ ap is_ident (dollar_ascii xs) ∙ no_start (chars xs)) ∙ k)

    go : (t : List ℕ) → is_ident (chars t) ≡ true → begins_with_dollar t ≡ false
    go [] k = refl
    go (x ∷ xs) k = at_first (nat_eq 36 x) x xs refl k

-- so it stands for no root
pub ident_stays : (i : Ident) → is_ident (chars i.sym) ≡ true → root_name i ≡ None
ident_stays i h = no_root i (ident_front i.sym h)
