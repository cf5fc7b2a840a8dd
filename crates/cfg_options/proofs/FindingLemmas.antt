-- What is found out about attributes, one after another.
use Rattle.std.proofs.Common.{◌≡◌, ℕ, zero, suc, ◌+◌, ◌≤◌, ◌<◌, Bool, true, false, ◌&&◌, ◌||◌, List, [], ◌∷◌, ◌++◌, Option, Some, None, option_map, codes, refl, sym, subst, ap, ◌∙◌, arith, if◌then◌else◌}
use Rattle.std.specs.Prelude.{IfSome, is_some, not, unwrap_or}
use Rattle.std.specs.List.{list_all}
use Rattle.std.proofs.lemmas.Slice.Eq.{bytes_eq-Decides}
use Rattle.tt_data.specs.Forest.{Forest, empty, leaf, group, size}
use Rattle.tt_data.specs.Literals.{LiteralParts}
use Rattle.tt_data.specs.declared.delimiter.DelimiterKind.TheVariants.{Bracket}
use Rattle.tt_data.specs.declared.leaf.Leaf.TheVariants as as_leaf
use Rattle.tt_data.specs.declared.span.Span.{Span}
use Rattle.bridge.specs.Text.{is_char, same_kind}
use Rattle.small_grammar.specs.Text.{is_empty, same_text, ◌>>=◌, ◌>>◌}
use Rattle.cfg_options.specs.Conditions.{or_else}
use Rattle.cfg_options.specs.Conditions.{Options, attribute_keeps, cfg_attr_keeps, cfg_keeps, cut_at_commas, is_kept, list_behind, listed, parenthesized, predicate_value}
use Rattle.cfg_options.specs.Attributes.{and_also, first_value, found_among, found_at, found_before, found_in, found_in_all, found_inside, found_of_cfg, found_of_cfg_attr, found_of_other, keeps_at, misread_at, nothing_found, only_value, tokens_in}
use Rattle.cfg_options.specs.Conditions.{first_attribute}
use Rattle.cfg_options.specs.Misread.{begins_with_colon, first_among, misread, misread_inside, misread_within, own_misread, reads_cfg, reads_cfg_attr, span_of_name}
use Rattle.cfg_options.specs.Options.{options_of}
use Rattle.cfg_options.specs.Conditions.{after_part, first_part}
use Rattle.cfg_options.specs.Strings.{string_text}
use Rattle.cfg_options.specs.declared.attributes.Finding.{Finding}
use Rattle.cfg_options.specs.declared.options.CfgOptions.{CfgOptions}
use Rattle.cfg_options.proofs.PartLemmas.{cut_first, part_sizes}
use Rattle.cfg_options.proofs.PredicateLemmas.{AreBelow, list_less, listed_below}

abbrev both : Forest → Forest → Option (Forest × Forest)
both x y = Some (x, y)

pub same_finding : (a b : Finding) → a.keeps ≡ b.keeps → a.misread ≡ b.misread → a ≡ b
same_finding a b k m =
    let K : Bool → Finding = λ x. record { keeps = x; misread = a.misread } in
    let M : Option Span → Finding = λ x. record { keeps = b.keeps; misread = x } in
    ap K k ∙ ap M m

and-more : (a b c : Bool) → ((a && b) && c) ≡ (a && (b && c))
and-more true b c = refl
and-more false b c = refl

or-more : (a b c : Option Span) → or_else (or_else a b) c ≡ or_else a (or_else b c)
or-more None b c = refl
or-more (Some x) b c = refl

and-true : (b : Bool) → (b && true) ≡ b
and-true true = refl
and-true false = refl

or-none : (o : Option Span) → or_else o None ≡ o
or-none None = refl
or-none (Some x) = refl

-- of three it does not matter which two come together first
pub more_found : (a b c : Finding) → and_also (and_also a b) c ≡ and_also a (and_also b c)
more_found a b c = same_finding _ _ (and-more a.keeps b.keeps c.keeps) (or-more a.misread b.misread c.misread)

pub nothing_more : (a : Finding) → and_also a nothing_found ≡ a
nothing_more a = same_finding _ _ (and-true a.keeps) (or-none a.misread)

-- ---- depth

module _ (o : Options) (t : LiteralParts → Option (List ℕ)) where
  abbrev pub keeps_by : (Forest → Bool) → Forest → Bool
  keeps_by f a = cfg_keeps o t (listed "cfg" a) && cfg_attr_keeps o t f (listed "cfg_attr" a)

  abbrev pub misread_by : (Forest → Option Span) → Forest → Option Span
  misread_by f a = or_else (own_misread o t a) (misread_inside o t f (listed "cfg_attr" a))

  same_all : (f g : Forest → Bool) (n : ℕ) (ps : List Forest) → AreBelow n ps → ((q : Forest) → size q < n → f q ≡ g q) → list_all f ps ≡ list_all g ps
  same_all f g n [] below same = refl
  same_all f g n (p ∷ ps) below same =
      ap (λ b. b && list_all f ps) (same p below.0) ∙ ap (λ b. g p && b) (same_all f g n ps below.1 same)

  same_first : (f g : Forest → Option Span) (n : ℕ) (ps : List Forest) → AreBelow n ps → ((q : Forest) → size q < n → f q ≡ g q) → first_among f ps ≡ first_among g ps
  same_first f g n [] below same = refl
  same_first f g n (p ∷ ps) below same =
      ap (λ b. or_else b (first_among f ps)) (same p below.0) ∙ ap (λ b. or_else (g p) b) (same_first f g n ps below.1 same)

  same_attr : (f g : Forest → Bool) (n : ℕ) (ps : List Forest) → AreBelow n ps → ((q : Forest) → size q < n → f q ≡ g q) → cfg_attr_keeps o t f (Some ps) ≡ cfg_attr_keeps o t g (Some ps)
  same_attr f g n [] below same = refl
  same_attr f g n (p ∷ ps) below same = ap (λ b. not (unwrap_or (predicate_value o t p) false) || b) (same_all f g n ps below.1 same)

  same_inside : (f g : Forest → Option Span) (n : ℕ) (ps : List Forest) → AreBelow n ps → ((q : Forest) → size q < n → f q ≡ g q) → misread_inside o t f (Some ps) ≡ misread_inside o t g (Some ps)
  same_inside f g n [] below same = refl
  same_inside f g n (p ∷ ps) below same = ap (λ b. if unwrap_or (predicate_value o t p) false then b else None) (same_first f g n ps below.1 same)

  same_keeps : (f g : Forest → Bool) (a : Forest) → ((q : Forest) → size q < size a → f q ≡ g q) → keeps_by f a ≡ keeps_by g a
  same_keeps f g a same = ap (λ b. cfg_keeps o t (listed "cfg" a) && b) (go (listed "cfg_attr" a) refl)
    where
      go : (l : Option (List Forest)) → listed "cfg_attr" a ≡ l → cfg_attr_keeps o t f (listed "cfg_attr" a) ≡ cfg_attr_keeps o t g (listed "cfg_attr" a)
      go None h = ap (cfg_attr_keeps o t f) h ∙ sym (ap (cfg_attr_keeps o t g) h)
      go (Some ps) h = ap (cfg_attr_keeps o t f) h ∙ same_attr f g (size a) ps (listed_below "cfg_attr" a ps h) same ∙ sym (ap (cfg_attr_keeps o t g) h)

  same_misread : (f g : Forest → Option Span) (a : Forest) → ((q : Forest) → size q < size a → f q ≡ g q) → misread_by f a ≡ misread_by g a
  same_misread f g a same = ap (or_else (own_misread o t a)) (go (listed "cfg_attr" a) refl)
    where
      go : (l : Option (List Forest)) → listed "cfg_attr" a ≡ l → misread_inside o t f (listed "cfg_attr" a) ≡ misread_inside o t g (listed "cfg_attr" a)
      go None h = ap (misread_inside o t f) h ∙ sym (ap (misread_inside o t g) h)
      go (Some ps) h = ap (misread_inside o t f) h ∙ same_inside f g (size a) ps (listed_below "cfg_attr" a ps h) same ∙ sym (ap (misread_inside o t g) h)

  more_keeps : (n m : ℕ) (a : Forest) → size a < n → size a < m → attribute_keeps o t n a ≡ attribute_keeps o t m a
  more_keeps zero m a h k = absurd (omega (arith, h))
  more_keeps (suc n) zero a h k = absurd (omega (arith, k))
  more_keeps (suc n) (suc m) a h k =
      same_keeps (attribute_keeps o t n) (attribute_keeps o t m) a (λ q lt. more_keeps n m q (omega (arith, lt, h)) (omega (arith, lt, k)))

  more_misread : (n m : ℕ) (a : Forest) → size a < n → size a < m → misread_within o t n a ≡ misread_within o t m a
  more_misread zero m a h k = absurd (omega (arith, h))
  more_misread (suc n) zero a h k = absurd (omega (arith, k))
  more_misread (suc n) (suc m) a h k =
      same_misread (misread_within o t n) (misread_within o t m) a (λ q lt. more_misread n m q (omega (arith, lt, h)) (omega (arith, lt, k)))

-- ---- one attribute

module _ (options : CfgOptions) where
  abbrev o : Options
  o = options_of options

  keeps_step : (a : Forest) → keeps_at options a ≡ keeps_by o string_text (keeps_at options) a
  keeps_step a =
      same_keeps o string_text (attribute_keeps o string_text (size a)) (keeps_at options) a
      (λ q lt. more_keeps o string_text (size a) (suc (size q)) q lt (omega arith))

  misread_step : (a : Forest) → misread_at options a ≡ misread_by o string_text (misread_at options) a
  misread_step a =
      same_misread o string_text (misread_within o string_text (size a)) (misread_at options) a
      (λ q lt. more_misread o string_text (size a) (suc (size q)) q lt (omega arith))

  -- what is found by the lists behind `cfg` and `cfg_attr`, and the spans of those names
  abbrev found_by : Option Forest → Option Forest → Option Span → Option Span → Finding
  found_by cfg attr at_cfg at_attr = record {
    keeps = cfg_keeps o string_text (option_map (λ g. cut_at_commas g empty) cfg) && cfg_attr_keeps o string_text (keeps_at options) (option_map (λ g. cut_at_commas g empty) attr);
    misread =
        or_else
        (or_else (if reads_cfg o string_text (option_map (λ g. cut_at_commas g empty) cfg) then None else at_cfg)
        (if reads_cfg_attr o string_text (option_map (λ g. cut_at_commas g empty) attr) then None else at_attr))
        (misread_inside o string_text (misread_at options) (option_map (λ g. cut_at_commas g empty) attr));
  }

  found_is : (a : Forest) → found_at options a ≡ found_by (list_behind (codes "cfg") a) (list_behind (codes "cfg_attr") a) (span_of_name (codes "cfg") a) (span_of_name (codes "cfg_attr") a)
  found_is a = same_finding _ _ (keeps_step a) (misread_step a)

  -- a list of attributes, by what keeps and what is not read
  among_is : (ps : List Forest) → found_among options ps ≡ record { keeps = list_all (keeps_at options) ps; misread = first_among (misread_at options) ps }
  among_is [] = refl
  among_is (p ∷ ps) = ap (and_also (found_at options p)) (among_is ps)

  -- ---- `cfg`

  -- by the parts of its list
  abbrev cfg_found : List Forest → Option Span → Finding
  cfg_found l s = record {
    keeps = cfg_keeps o string_text (Some l) && true;
    misread = or_else (or_else (if reads_cfg o string_text (Some l) then None else s) None) None;
  }

  cfg_none : (s : Option Span) → or_else (or_else s None) None ≡ s
  cfg_none s = or-none (or_else s None) ∙ or-none s

  cfg_one : (v : Option Bool) (s : Option Span) → found_of_cfg v s ≡ record { keeps = unwrap_or v true && true; misread = or_else (or_else (if is_some v then None else s) None) None }
  cfg_one (Some keeps) s = same_finding _ _ (sym (and-true keeps)) refl
  cfg_one None s = same_finding _ _ refl (sym (cfg_none s))

  cfg_two : (f g : Forest) (s : Option Span) → is_empty f ≡ false → is_empty g ≡ false → after_part f ≡ g → found_of_cfg (only_value options f) s ≡ cfg_found (cut_at_commas f empty) s
  cfg_two f g s some more e =
      ap (λ b. found_of_cfg (if b then first_value options f else None) s) (ap is_empty e ∙ more)
      ∙ same_finding _ (cfg_found (first_part f ∷ (first_part g ∷ cut_at_commas (after_part g) empty)) s) refl (sym (cfg_none s))
      ∙ sym (ap (λ l. cfg_found l s) (cut_first f some ∙ ap (λ l. first_part f ∷ l) (ap (λ h. cut_at_commas h empty) e ∙ cut_first g more)))

  -- by what is after its first part
  cfg_of : (f g : Forest) (s : Option Span) → is_empty f ≡ false → after_part f ≡ g → found_of_cfg (only_value options f) s ≡ cfg_found (cut_at_commas f empty) s
  cfg_of f empty s some e =
      ap (λ h. found_of_cfg (if is_empty h then first_value options f else None) s) e
      ∙ ap (λ b. found_of_cfg (if b then None else predicate_value o string_text (first_part f)) s) some
      ∙ cfg_one (predicate_value o string_text (first_part f)) s
      ∙ sym (ap (λ l. cfg_found l s) (cut_first f some ∙ ap (λ h. first_part f ∷ cut_at_commas h empty) e))
  cfg_of f (leaf l g) s some e = cfg_two f (leaf l g) s some refl e
  cfg_of f (group d i g) s some e = cfg_two f (group d i g) s some refl e

  cfg_all : (f : Forest) (s : Option Span) → found_of_cfg (only_value options f) s ≡ cfg_found (cut_at_commas f empty) s
  cfg_all empty s = same_finding _ _ refl (sym (cfg_none s))
  cfg_all (leaf l f) s = cfg_of (leaf l f) (after_part (leaf l f)) s refl refl
  cfg_all (group d i f) s = cfg_of (group d i f) (after_part (group d i f)) s refl refl

  -- ---- `cfg_attr`

  abbrev attr_found : List Forest → Option Span → Finding
  attr_found l s = record {
    keeps = cfg_attr_keeps o string_text (keeps_at options) (Some l);
    misread = or_else (if reads_cfg_attr o string_text (Some l) then None else s) (misread_inside o string_text (misread_at options) (Some l));
  }

  abbrev attr_read : Option Bool → Option Span → Forest → Finding
  attr_read v s rest = and_also (found_of_cfg_attr v s rest).0 (found_inside options (found_of_cfg_attr v s rest).1)

  attr_one : (v : Option Bool) (s : Option Span) (rest : Forest)
      → attr_read v s rest
      ≡ record {
        keeps = not (unwrap_or v false) || list_all (keeps_at options) (cut_at_commas rest empty);
        misread = or_else (if is_some v then None else s) (if unwrap_or v false then first_among (misread_at options) (cut_at_commas rest empty) else None);
      }
  attr_one None s rest = refl
  attr_one (Some false) s rest = refl
  attr_one (Some true) s rest = among_is (cut_at_commas rest empty)

  attr_all : (f : Forest) (s : Option Span) → attr_read (first_value options f) s (after_part f) ≡ attr_found (cut_at_commas f empty) s
  attr_all empty s = refl
  attr_all (leaf l f) s =
      attr_one (predicate_value o string_text (first_part (leaf l f))) s (after_part (leaf l f))
      ∙ sym (ap (λ ps. attr_found ps s) (cut_first (leaf l f) refl))
  attr_all (group d i f) s =
      attr_one (predicate_value o string_text (first_part (group d i f))) s (after_part (group d i f))
      ∙ sym (ap (λ ps. attr_found ps s) (cut_first (group d i f) refl))

  -- ---- an attribute, by its word

  -- a list behind one word is behind no other, and no other word is there
  pub record HasNo (text : List ℕ) (a : Forest) : Type 0 where
    pub no_list : list_behind text a ≡ None
    pub no_span : span_of_name text a ≡ None

  other_text : (s t u : List ℕ) → same_text t u ≡ false → same_text s t ≡ true → same_text s u ≡ false
  other_text s t u apart e = ap (λ x. same_text x u) ((bytes_eq-Decides s t).0 e) ∙ apart

  passed : (b : Bool) (r f : Forest) → (b >> Some r) >>= parenthesized ≡ Some f → b ≡ true
  passed true r f e = refl
  passed false r f e = absurd (cc e)

  has_no : (t u : List ℕ) (a f : Forest) → same_text t u ≡ false → list_behind t a ≡ Some f → HasNo u a
  has_no t u (leaf (as_leaf.Ident i) r) f apart e =
      let no : same_text i.sym u ≡ false = other_text i.sym t u apart (passed (same_text i.sym t) r f e) in
      record {
        no_list = ap (λ b. (b >> Some r) >>= parenthesized) no;
        no_span = ap (λ b. (b && not (begins_with_colon r)) >> Some i.span) no;
      }
  has_no t u (leaf (as_leaf.Punct p) rest) f apart e = absurd (cc e)
  has_no t u (leaf (as_leaf.Literal l) rest) f apart e = absurd (cc e)
  has_no t u (group d inner rest) f apart e = absurd (cc e)
  has_no t u empty f apart e = absurd (cc e)

  same_by_parts : (a : Forest) (cfg attr : Option Forest) (at_cfg at_attr : Option Span)
      → list_behind (codes "cfg") a ≡ cfg → list_behind (codes "cfg_attr") a ≡ attr → span_of_name (codes "cfg") a ≡ at_cfg → span_of_name (codes "cfg_attr") a ≡ at_attr
      → found_at options a ≡ found_by cfg attr at_cfg at_attr
  same_by_parts a cfg attr at_cfg at_attr p q r s =
      found_is a
      ∙ ap (λ x. found_by x (list_behind (codes "cfg_attr") a) (span_of_name (codes "cfg") a) (span_of_name (codes "cfg_attr") a)) p
      ∙ ap (λ x. found_by cfg x (span_of_name (codes "cfg") a) (span_of_name (codes "cfg_attr") a)) q
      ∙ ap (λ x. found_by cfg attr x (span_of_name (codes "cfg_attr") a)) r
      ∙ ap (λ x. found_by cfg attr at_cfg x) s

  pub read_cfg_is : (a f : Forest) → list_behind (codes "cfg") a ≡ Some f
      → and_also (found_of_cfg (only_value options f) (span_of_name (codes "cfg") a)) (found_inside options None) ≡ found_at options a
  read_cfg_is a f e =
      let no = has_no (codes "cfg") (codes "cfg_attr") a f refl e in
      nothing_more (found_of_cfg (only_value options f) (span_of_name (codes "cfg") a))
      ∙ cfg_all f (span_of_name (codes "cfg") a)
      ∙ sym (same_by_parts a (Some f) None (span_of_name (codes "cfg") a) None e no.no_list refl no.no_span)

  pub read_attr_is : (a f : Forest) → list_behind (codes "cfg_attr") a ≡ Some f
      → attr_read (first_value options f) (span_of_name (codes "cfg_attr") a) (after_part f) ≡ found_at options a
  read_attr_is a f e =
      let no = has_no (codes "cfg_attr") (codes "cfg") a f refl e in
      attr_all f (span_of_name (codes "cfg_attr") a)
      ∙ sym (same_by_parts a None (Some f) None (span_of_name (codes "cfg_attr") a) no.no_list e no.no_span refl)

  pub read_other_is : (a : Forest) → list_behind (codes "cfg") a ≡ None → list_behind (codes "cfg_attr") a ≡ None
      → and_also (found_of_other a) (found_inside options None) ≡ found_at options a
  read_other_is a p q = sym (same_by_parts a None None (span_of_name (codes "cfg") a) (span_of_name (codes "cfg_attr") a) p q refl refl)

  -- ---- lists that wait

  pub innermost_found : (fs : List Forest) (f : Forest) → found_in_all options (fs ++ (f ∷ [])) ≡ and_also (found_in options f) (found_in_all options fs)
  innermost_found [] f = sym (nothing_more (found_in options f))
  innermost_found (g ∷ fs) f =
      ap (λ x. and_also x (found_in options g)) (innermost_found fs f)
      ∙ more_found (found_in options f) (found_in_all options fs) (found_in options g)

  -- the first attribute of a list, and those after it
  first_found : (f : Forest) → is_empty f ≡ false → found_in options f ≡ and_also (found_at options (first_part f)) (found_in options (after_part f))
  first_found f some = ap (found_among options) (cut_first f some)

  -- what is read of the first one, then what it stands for, then the rest
  pub one_on : (found here inside r : Finding) (f : Forest) → is_empty f ≡ false → and_also here inside ≡ found_at options (first_part f)
      → and_also (and_also found here) (and_also inside (and_also (found_in options (after_part f)) r)) ≡ and_also found (and_also (found_in options f) r)
  one_on found here inside r f some e =
      more_found found here (and_also inside (and_also (found_in options (after_part f)) r))
      ∙ ap (and_also found)
      (sym (more_found here inside (and_also (found_in options (after_part f)) r))
      ∙ ap (λ x. and_also x (and_also (found_in options (after_part f)) r)) e
      ∙ sym (more_found (found_at options (first_part f)) (found_in options (after_part f)) r)
      ∙ ap (λ x. and_also x r) (sym (first_found f some)))

  -- ---- the outer attributes of a piece

  before_step : (b c : Bool) (inner rest x y : Forest) → b >> (c >> both inner rest) ≡ both x y
      → record {
        keeps = not (b && c) || (keeps_at options inner && is_kept o string_text rest);
        misread = if b && c then or_else (misread_at options inner) (misread o string_text rest) else None;
      } ≡ and_also (found_at options x) (found_before options y)
  before_step true true inner rest x y e =
      let front : Option (Forest × Forest) → Forest = λ z. (unwrap_or z (empty, empty)).0 in
      let back : Option (Forest × Forest) → Forest = λ z. (unwrap_or z (empty, empty)).1 in
      let p : inner ≡ x = ap front e in
      let q : rest ≡ y = ap back e in
      ap (λ z. and_also (found_at options z) (found_before options rest)) p ∙ ap (λ z. and_also (found_at options x) (found_before options z)) q
  before_step true false inner rest x y e = absurd (cc e)
  before_step false c inner rest x y e = absurd (cc e)

  before_none : (b c : Bool) (inner rest : Forest) → b >> (c >> both inner rest) ≡ None
      → record {
        keeps = not (b && c) || (keeps_at options inner && is_kept o string_text rest);
        misread = if b && c then or_else (misread_at options inner) (misread o string_text rest) else None;
      } ≡ nothing_found
  before_none true true inner rest e = absurd (cc e)
  before_none true false inner rest e = refl
  before_none false c inner rest e = refl

  no_attribute : (b : Bool) (x y : Forest) → b >> None ≡ both x y → ⊥
  no_attribute true x y e = cc e
  no_attribute false x y e = cc e

  pub one_before : (f x y : Forest) → first_attribute f ≡ Some (x, y) → found_before options f ≡ and_also (found_at options x) (found_before options y)
  one_before (leaf (as_leaf.Punct p) (group d inner rest)) x y e = before_step (is_char "#" p) (same_kind d.kind Bracket) inner rest x y e
  one_before (leaf (as_leaf.Punct p) (leaf l rest)) x y e = absurd (no_attribute (is_char "#" p) x y e)
  one_before (leaf (as_leaf.Punct p) empty) x y e = absurd (no_attribute (is_char "#" p) x y e)
  one_before (leaf (as_leaf.Ident i) rest) x y e = absurd (cc e)
  one_before (leaf (as_leaf.Literal l) rest) x y e = absurd (cc e)
  one_before (group d inner rest) x y e = absurd (cc e)
  one_before empty x y e = absurd (cc e)

  pub none_before : (f : Forest) → first_attribute f ≡ None → found_before options f ≡ nothing_found
  none_before (leaf (as_leaf.Punct p) (group d inner rest)) e = before_none (is_char "#" p) (same_kind d.kind Bracket) inner rest e
  none_before (leaf (as_leaf.Punct p) (leaf l rest)) e = refl
  none_before (leaf (as_leaf.Punct p) empty) e = refl
  none_before (leaf (as_leaf.Ident i) rest) e = refl
  none_before (leaf (as_leaf.Literal l) rest) e = refl
  none_before (group d inner rest) e = refl
  none_before empty e = refl

attribute_less : (b c : Bool) (inner rest x y : Forest) → b >> (c >> both inner rest) ≡ both x y → size y < 1 + (1 + (size inner + size rest))
attribute_less true true inner rest x y e =
    let back : Option (Forest × Forest) → Forest = λ z. (unwrap_or z (empty, empty)).1 in
    let q : rest ≡ y = ap back e in
    let s : size rest ≡ size y = ap size q in omega (arith, s)
attribute_less true false inner rest x y e = absurd (cc e)
attribute_less false c inner rest x y e = absurd (cc e)

pub less_behind : (f x y : Forest) → first_attribute f ≡ Some (x, y) → size y < size f
less_behind (leaf (as_leaf.Punct p) (group d inner rest)) x y e = attribute_less (is_char "#" p) (same_kind d.kind Bracket) inner rest x y e
less_behind (leaf (as_leaf.Punct p) (leaf l rest)) x y e = none (is_char "#" p) e
  where
    none : (b : Bool) → b >> None ≡ both x y → size y < size (leaf (as_leaf.Punct p) (leaf l rest))
    none true h = absurd (cc h)
    none false h = absurd (cc h)
less_behind (leaf (as_leaf.Punct p) empty) x y e = none (is_char "#" p) e
  where
    none : (b : Bool) → b >> None ≡ both x y → size y < size (leaf (as_leaf.Punct p) empty)
    none true h = absurd (cc h)
    none false h = absurd (cc h)
less_behind (leaf (as_leaf.Ident i) rest) x y e = absurd (cc e)
less_behind (leaf (as_leaf.Literal l) rest) x y e = absurd (cc e)
less_behind (group d inner rest) x y e = absurd (cc e)
less_behind empty x y e = absurd (cc e)

pub tokens_with : (fs : List Forest) (f : Forest) → tokens_in (fs ++ (f ∷ [])) ≡ tokens_in fs + (1 + size f)
tokens_with [] f = omega arith
tokens_with (g ∷ fs) f = omega (arith, tokens_with fs f)

-- the first value of a list
pub first_is : (options : CfgOptions) (f part rest : Forest) (v : Option Bool) → is_empty f ≡ false → part ≡ first_part f → rest ≡ after_part f → v ≡ predicate_value (options_of options) string_text part
    → let Both : Type 0 = Option Bool × Forest in let all : Both = (first_value options f, after_part f) in let here : Both = (v, rest) in here ≡ all
first_is options f part rest v some p r e =
    let With : Option Bool → Option Bool × Forest = λ x. (x, rest) in
    let Then : Forest → Option Bool × Forest = λ x. (first_value options f, x) in
    ap With (e ∙ ap (predicate_value (options_of options) string_text) p ∙ sym (ap (λ b. if b then None else predicate_value (options_of options) string_text (first_part f)) some))
    ∙ ap Then r

-- what a `cfg_attr` stands for is less
abbrev pub IsAtMost : ℕ → Option Forest → Type 0
IsAtMost n inside = IfSome inside (λ l. size l + 2 ≤ n)

inside_at_most : (a f : Forest) (v : Option Bool) (s : Option Span) → list_behind (codes "cfg_attr") a ≡ Some f → IsAtMost (size a) (found_of_cfg_attr v s (after_part f)).1
inside_at_most a f None s e = tt
inside_at_most a f (Some false) s e = tt
inside_at_most a f (Some true) s e = omega (arith, list_less (codes "cfg_attr") a f e, part_sizes f)

pub attr_less : (a f : Forest) (v : Option Bool) (s : Option Span) (inside : Option Forest) → list_behind (codes "cfg_attr") a ≡ Some f
    → inside ≡ (found_of_cfg_attr v s (after_part f)).1 → IsAtMost (size a) inside
attr_less a f v s inside e h =
    let P : Option Forest → Type 0 = λ i. IsAtMost (size a) i in
    subst P (sym h) (inside_at_most a f v s e)

-- a list of more than one part has no only value
pub none_alone : (options : CfgOptions) (f rest : Forest) → rest ≡ after_part f → is_empty rest ≡ false → None ≡ only_value options f
none_alone options f rest e h = sym (ap (λ b. if b then first_value options f else None) (sym (ap is_empty e) ∙ h))
