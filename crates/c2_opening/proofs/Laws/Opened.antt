-- The session of an accepted opening is in range, stands at the first act of its order, and has the whole
-- exchange to come.
use mathlib.Core.Path.{◌≡◌, refl, sym, ap, ◌∙◌}
use mathlib.Core.Bool.{true}
use mathlib.Core.List.{List}
use Prim.Native.Nat.{ℕ, ◌*◌, ◌/◌, ◌%◌, ◌<◌, ◌≤◌}
use native.Mathlib.Nat.{mul_comm, mod-eq_of_lt, mul-le-mul_left}
use native.Mathlib.Omega.{arith}
use borrow.Author.Tests.{ne_eqb}
use lib.ListN.{length}
use Rattle.laws.specs.Bytes.{Bytes}
use Rattle.c2_wire.specs.Place.{place, count_limit, samples}
use Rattle.settings.specs.declared.Settings.{Settings}
use Rattle.settings.specs.Accepted.{tidied}
use Rattle.settings.specs.Opening.{opening_refusal}
use Rattle.settings.proofs.Laws.Registers.{tidy_is_tidy}
use Rattle.c2_order.specs.Acts.{Act}
use Rattle.c2_order.specs.Order.{lead, session_order}
use Rattle.c2_order.specs.Conversation.{limits_of}
use Rattle.c2_order.specs.Claims.{exchange_of}
use Rattle.c2_order.specs.Point.{begin, strobes_of, reads_of, left_to_say}
use Rattle.settings.proofs.Laws.Opening.{opened, tidied_opening}
use Rattle.c2_order.proofs.Laws.Order.{tidied_order}
use Rattle.c2_order.proofs.Laws.Conversation.{limits_positive}
use Rattle.c2_order.proofs.Laws.Point.{begin_says}
use Rattle.c2_position.specs.Position.{position, point_position, at_act}
use Rattle.c2_position.proofs.Laws.Advanced.{fits_of}
use Rattle.c2_position.proofs.Laws.Onward.{begin_at}
use Rattle.c2_position.proofs.Laws.Before.{lead_first}
use Rattle.c2_range.specs.Range.{stage_order, in_range}
use Rattle.c2_range.proofs.Laws.Pairs.{tidy_exactly}
use Rattle.c2_range.proofs.Laws.Range.{opening_passes, ranges_are}
use Rattle.c2_opening.specs.Opened.{opened_session, exchange_at}
use Rattle.c2_opening.specs.Code.Started.{started}
use Rattle.c2_opening.proofs.Laws.Follows.{Lent}

-- the numbers of an accepted opening fit into 16 bits
pub started_is : (t : Settings) (first n : ℕ) → opening_refusal t first n ≡ 0 → started t first n ≡ opened_session t first n
unfolding started opened_session
started_is t first n e =
    let o = opened t first n e in
    let f = o.settings in
    let twice : t.count * 2 ≤ t.count * t.size = mul-le-mul_left {m = 2} {n = t.size} t.count (omega (arith, f.size, f.some)) in
    let few : t.count ≤ 32768 = omega (arith, twice, mul_comm t.count t.size, f.bytes) in
    let a : first % 65536 ≡ first = mod-eq_of_lt (omega (arith, few, o.inside)) in
    let b : n / t.size % 65536 ≡ n / t.size = mod-eq_of_lt (omega (arith, few, o.inside)) in
    rw (a, ne_eqb t.size 0 (λ z. omega (arith, f.size, f.some)), b)

module _ (t : Settings) (first : ℕ) (image : List ℕ) (e : opening_refusal t first (length image) ≡ 0) where
  whole_pages : length image ≡ t.size * (length image / t.size)
  whole_pages = (opened t first (length image) e).whole ∙ mul_comm (length image / t.size) t.size

  begins_in_range : in_range (opened_session t first (length image)) ≡ true
  unfolding opened_session count_limit samples stage_order lead strobes_of reads_of
  begins_in_range =
      (ranges_are (opened_session t first (length image))).1
      (record {
        opening = opening_passes (tidied t) first (length image / t.size)
            (ap (λ (z : ℕ). opening_refusal (tidied t) first z) (sym whole_pages) ∙ tidied_opening t first (length image) ∙ e);
        unnamed = (tidy_exactly (tidied t).pairs).0 (tidy_is_tidy t.pairs);
        point = record { page = omega arith; block = omega arith; act = _; later = _; here = refl; strobe = omega arith; count = omega arith; bits = omega arith };
      })

  image_whole : length image ≡ (opened_session t first (length image)).settings.size * (opened_session t first (length image)).pages
  unfolding opened_session
  image_whole = whole_pages

  -- the session of an accepted opening is in range, lent its image
  pub begins_lent : t.id < 256 → Bytes image → Lent (opened_session t first (length image)) image
  unfolding opened_session
  begins_lent i b = record { id = i; bytes = b; range = begins_in_range; whole = whole_pages }

  -- the session of an accepted opening stands at the first act of its order
  pub begins_at : position (opened_session t first (length image)) image ≡ begin (session_order t first image)
  unfolding opened_session point_position
  begins_at =
      let fits = fits_of (opened_session t first (length image)) image begins_in_range image_whole in
      ap (λ (acts : List Act). at_act acts (place 0 0 0))
      (lead_first (opened_session t first (length image)) image fits ∙ tidied_order t first image (opened t first (length image) e).settings.few_pairs)
      ∙ sym (begin_at (session_order t first image))

  pub begins_so : exchange_at (opened_session t first (length image)) image ≡ exchange_of (limits_of t) t first image
  unfolding opened_session
  begins_so =
      ap (left_to_say (limits_of t)) begins_at
      ∙ begin_says (limits_of t) (limits_positive t (opened t first (length image) e).settings) (session_order t first image)
