-- A text and a suffix put together: the suffix begins where the text ends.
use Rattle.std.proofs.Common.{◌≡◌, ◌++◌, ◌-◌, ◌≤◌, List, ℕ, length, take, drop, ap, refl, subst, arith, length-append}
use Rattle.std.proofs.Math.Seq.{take-append_seam, drop-append_seam}
use Rattle.std.proofs.lemmas.Str.{IsCharBoundary-at_seam}
use Rattle.std.specs.Str.{IsCharBoundary, IsUtf8}
use Rattle.tt_data.specs.declared.span.Span.{Span}
use Rattle.tt_data.specs.declared.leaf.LitKind.{LitKind}
use Rattle.tt_data.specs.declared.leaf.Literal.{Literal}

module _ (all text suffix : List ℕ) (whole : all ≡ text ++ suffix) where
  seam : length text ≡ length all - length suffix
  seam = omega (arith, ap length whole, length-append text suffix)

  pub inside : IsUtf8 suffix → (length suffix ≤ length all) × IsCharBoundary all (length all - length suffix)
  inside utf8 = (
    omega (arith, ap length whole, length-append text suffix),
    subst (IsCharBoundary all) seam (IsCharBoundary-at_seam all text suffix whole utf8),
  )

  pub cut : (kind : LitKind) (span : Span)
      → ◌≡◌ {A = Literal} (record { text = take (length all - length suffix) all; suffix = drop (length all - length suffix) all; kind = kind; span = span })
      (record { text = text; suffix = suffix; kind = kind; span = span })
  cut kind span = rw (← seam, whole, take-append_seam text suffix, drop-append_seam text suffix) refl
