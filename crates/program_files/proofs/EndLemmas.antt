-- Ends of modules, one token more.
use Rattle.std.proofs.Common.{◌≡◌, ℕ, zero, suc, ◌+◌, ◌<◌, ◌≤◌, Bool, true, false, Option, Some, None, length, sym, ap, ◌∙◌, refl, arith, subst, ⊎_elim}
use Rattle.std.specs.Prelude.{IfNone, IfSome, nat_eq, ◌&&◌, if◌then◌else◌}
use Rattle.std.specs.List.{slice_get}
use Rattle.std.proofs.lemmas.Option.{slice_get_within}
use Rattle.std.proofs.lemmas.Bool.{cases_lt}
use Rattle.std.proofs.lemmas.Bool.Decides.{nat_tests}
use Rattle.bridge.specs.PrintedRanges.{read_ranges}
use Rattle.crate_walk.specs.WholeTexts.{has_semicolon}
use Rattle.expander_run.specs.expander_session.Expanded.{Expanded}
use Rattle.tt_data.specs.declared.span.TextRange.{TextRange}
use Rattle.program_files.specs.EndsFound.{IsBefore, IsEndAmong, end_after, is_at}
use Rattle.program_files.specs.ModuleEnds.{ComesFrom, IsEnd, IsEndBehind}

module _ (e : Expanded) where
  -- a token comes from one offset
  one_start : (k s t : ℕ) → ComesFrom e k s → ComesFrom e k t → s ≡ t
  one_start k s t a b =
      let same : Some a.range ≡ Some b.range = sym a.origin ∙ b.origin in
      let range : a.range ≡ b.range = cc in
      sym a.starts ∙ (ap (λ (r : TextRange). r.start) range ∙ b.starts)

  -- a `;` behind the last token
  here : (i start : ℕ) (before : Option ℕ) (r : TextRange) → IsBefore e i before
      → slice_get (read_ranges e.printed) i ≡ Some r
      → is_at before start ≡ true → has_semicolon e.printed r.start ≡ true
      → IsEndBehind e start r.start
  here i start None r is at h semi = absurd (cc h)
  here zero start (Some s) r is at h semi = absurd (cc (is.first refl))
  here (suc k) start (Some s) r is at h semi =
      let next : k + 1 ≡ suc k = omega arith in
      let same : s ≡ start = grind (arith, nat_tests, h) in
      record {
        index = k;
        comes = subst (ComesFrom e k) same (is.own k s next refl);
        range = r;
        behind = ap (slice_get (read_ranges e.printed)) next ∙ at;
        starts = refl;
        semicolon = semi;
      }

  -- none is behind it
  not_here : (i start at : ℕ) (before : Option ℕ) (r : TextRange) → IsBefore e i before
      → slice_get (read_ranges e.printed) i ≡ Some r
      → (is_at before start && has_semicolon e.printed r.start) ≡ false
      → (b : IsEndBehind e start at) → b.index + 1 ≡ i → ⊥
  not_here i start at None r is has h b last = is.other b.index start last refl b.comes
  not_here i start at (Some s) r is has h b last =
      let s_is : s ≡ start = one_start b.index s start (is.own b.index s last refl) b.comes in
      let same : Some b.range ≡ Some r = sym b.behind ∙ (ap (slice_get (read_ranges e.printed)) last ∙ has) in
      let range : b.range ≡ r = cc in
      let starts : at ≡ r.start = sym b.starts ∙ ap (λ (q : TextRange). q.start) range in
      let semi : has_semicolon e.printed r.start ≡ true = subst (λ (n : ℕ). has_semicolon e.printed n ≡ true) starts b.semicolon in
      let equal : nat_eq s start ≡ true = grind (arith, nat_tests, s_is) in
      absurd (cc (h, semi, equal))

  -- one token more
  choose : (i start : ℕ) (before : Option ℕ) (r : TextRange) (old : Option ℕ) (b : Bool) → IsBefore e i before
      → slice_get (read_ranges e.printed) i ≡ Some r
      → (is_at before start && has_semicolon e.printed r.start) ≡ b
      → IsEndAmong e i start old
      → IsEndAmong e (i + 1) start (if b then Some r.start else old)
  choose i start before r old true is has h among = record {
    some = λ at same.
        let equal : r.start ≡ at = cc in
        subst (IsEndBehind e start) equal (here i start before r is has (left_true (is_at before start) (has_semicolon e.printed r.start) h) (right_true (is_at before start) (has_semicolon e.printed r.start) h));
    none = λ at same. absurd (cc same);
  }
    where
      left_true : (p q : Bool) → (p && q) ≡ true → p ≡ true
      left_true true q is = refl
      left_true false q is = absurd (cc is)

      right_true : (p q : Bool) → (p && q) ≡ true → q ≡ true
      right_true true q is = is
      right_true false q is = absurd (cc is)
  choose i start before r old false is has h among = record {
    some = among.some;
    none = λ at same b lt. ⊎_elim
        (λ (w : b.index + 1 < i). among.none at same b w)
        (λ (w : i ≤ b.index + 1). not_here i start at before r is has h b (omega (arith, w, lt)))
        (cases_lt (b.index + 1) i);
  }

  pub one_more : (i start : ℕ) (before : Option ℕ) (r : TextRange) (old : Option ℕ) → IsBefore e i before
      → slice_get (read_ranges e.printed) i ≡ Some r
      → IsEndAmong e i start old
      → IsEndAmong e (i + 1) start (end_after e.printed before r.start start old)
  one_more i start before r old is has among = choose i start before r old _ is has refl among

  -- before all tokens
  pub at_first : IsBefore e 0 None
  at_first = record {
    first = λ is. refl;
    own = λ k start is some. absurd (cc some);
    other = λ k start is none h. absurd (omega (arith, is));
  }

  pub none_at_first : (start : ℕ) → IsEndAmong e 0 start None
  none_at_first start = record {
    some = λ at some. absurd (cc some);
    none = λ at none b lt. absurd (omega (arith, lt));
  }

  -- behind a token
  pub behind_token : (i : ℕ) (o : Option ℕ) → IfSome o (λ s. ComesFrom e i s)
      → IfNone o ((s : ℕ) → ComesFrom e i s → ⊥) → IsBefore e (i + 1) o
  behind_token i None own other = record {
    first = λ is. refl;
    own = λ k s is some. absurd (cc some);
    other = λ k s is none h.
        let same : k ≡ i = omega (arith, is) in
        other s (subst (λ (n : ℕ). ComesFrom e n s) same h);
  }
  behind_token i (Some t) own other = record {
    first = λ is. absurd (omega (arith, is));
    own = λ k s is some.
        let same : i ≡ k = omega (arith, is) in
        let start : t ≡ s = cc in
        subst (λ (n : ℕ). ComesFrom e n s) same (subst (ComesFrom e i) start own);
    other = λ k s is none h. absurd (cc none);
  }

  -- all tokens are passed
  pub all_passed : (i start : ℕ) (found : Option ℕ) → length (read_ranges e.printed) ≤ i
      → IsEndAmong e i start found → IsEnd e start found
  all_passed i start None most among = λ at b.
      among.none at refl b (omega (arith, most, slice_get_within (read_ranges e.printed) (b.index + 1) b.range b.behind))
  all_passed i start (Some at) most among = among.some at refl
