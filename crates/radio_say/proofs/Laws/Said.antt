-- What a job says at each point, and a call's answer and buffer by it.
use mathlib.Core.Path.{◌≡◌, refl, sym, ap, ◌∙◌}
use mathlib.Core.Bool.{true, false, ◌&&◌}
use mathlib.Core.List.{List, [], ◌∷◌, ◌++◌}
use Prim.Native.Nat.{ℕ, suc, ◌+◌, ◌≤◌, ◌<◌}
use native.Mathlib.Numerals.{add-one}
use native.Mathlib.Omega.{arith}
use lib.Dec.{eqb, leb, ltb}
use lib.ListN.{length, take, drop, get_or}
use lib.Seq.{get_or-take}
use borrow.Author.Tests.{ltb-true, ltb-false, lt-leb, le-leb, eq-eqb, ne_eqb}
use Rattle.std.proofs.lemmas.List.{append_assoc, append-nil, drop_all, drop-append-le, take-append-drop, length-take-le}
use Rattle.laws.proofs.Tests.{by_test}
use Rattle.exchange.specs.Exchange.{Said, asks, ends, said}
use Rattle.radio_command.specs.declared.CommandName.{CommandName}
use Rattle.radio_command.specs.declared.CommandName.TheVariants.{RdFlashPage, WrFlashPage, WrFlashByte, WrPrgArea}
use Rattle.radio_command.specs.Command.{message_byte, built}
use Rattle.radio_job.specs.declared.Ending.{Ending}
use Rattle.radio_job.specs.declared.JobPoint.{JobPoint}
use Rattle.radio_job.specs.declared.JobPoint.TheVariants.{AsksConfiguration, TakesConfiguration, ErasesArea, FeedsPage}
use Rattle.radio_job.specs.declared.JobPoint.TheVariants.{ErasesConfiguration, SetsConfiguration, SetsByte0, AsksPage}
use Rattle.radio_job.specs.declared.JobPoint.TheVariants.{TakesPage, SetsByte1, Finished}
use Rattle.radio_job.specs.Image.{image_fits, pages_for, page_count, image_pages, image_page}
use Rattle.radio_job.specs.Job.{Message, JobExchange, command_message, confirmed, fetched, fed_pages, pages_compared, protects, restores}
use Rattle.radio_job.specs.State.{point_fits}
use Rattle.radio_job.proofs.Laws.Image.{image_next, image_last, image_page_long}
use Rattle.radio_calls.specs.declared.RadioAdvanced.{RadioAdvanced}
use Rattle.radio_calls.specs.Calls.{takes_answer, message_of, message_put}
use Rattle.std.specs.Prelude.{Some, None}
use Rattle.radio_point.specs.Code.After.{page_behind}
use Rattle.radio_say.specs.Code.Say.{point_says, asks_for, may_say, say_answer, say_out}

abbrev asking : (message : List ℕ) → (expect : ℕ) → Said Message Ending
asking m n = asks (record { bytes = m; expect = n })

-- each point
pub says_asks_configuration : (im c : List ℕ) → point_says AsksConfiguration im c ≡ asking (command_message RdFlashPage 127 0 0) 8
unfolding point_says said fetched confirmed
says_asks_configuration im c = refl

pub says_takes_configuration : (im c : List ℕ) → point_says TakesConfiguration im c ≡ asking [] 256
unfolding point_says said
says_takes_configuration im c = refl

pub says_erases_area : (im c : List ℕ) → point_says ErasesArea im c ≡ asking (command_message WrPrgArea (page_count im) 0 0) 8
unfolding point_says said confirmed
says_erases_area im c = refl

pub says_erases_configuration : (im c : List ℕ) → point_says ErasesConfiguration im c ≡ asking (command_message WrFlashPage 127 0 0) 8
unfolding point_says said confirmed restores
says_erases_configuration im c = refl

pub says_sets_configuration : (im c : List ℕ) → point_says SetsConfiguration im c ≡ asking c 8
unfolding point_says said confirmed
says_sets_configuration im c = refl

pub says_byte_0 : (im c : List ℕ) → point_says SetsByte0 im c ≡ asking (command_message WrFlashByte 0x7F 0x00 (message_byte c 0)) 8
unfolding point_says said confirmed
says_byte_0 im c = refl

pub says_takes_page : (p : ℕ) (im c : List ℕ) → point_says (TakesPage p) im c ≡ asking [] 256
unfolding point_says said
says_takes_page p im c = refl

pub says_byte_1 : (im c : List ℕ) → point_says SetsByte1 im c ≡ asking (command_message WrFlashByte 0x7F 0x01 (message_byte c 1)) 8
unfolding point_says said confirmed protects
says_byte_1 im c = refl

pub says_finished : (e : Ending) (im c : List ℕ) → point_says (Finished e) im c ≡ ends e
unfolding point_says said
says_finished e im c = refl

compared_says : (p : ℕ) (q : List ℕ) (qs : List (List ℕ)) (rest : JobExchange) → said (pages_compared p (q ∷ qs) rest) ≡ asking (command_message RdFlashPage p 0 0) 8
unfolding said pages_compared fetched confirmed
compared_says p q qs rest = refl

pub says_asks_page : (p : ℕ) (im c : List ℕ) → p < page_count im → point_says (AsksPage p) im c ≡ asking (command_message RdFlashPage p 0 0) 8
unfolding point_says
says_asks_page p im c h =
    ap (λ (t : List (List ℕ)). said (pages_compared p t (protects c))) (image_next im p h) ∙ compared_says p _ _ (protects c)

fed_says_more : (q : List ℕ) (ps : List (List ℕ)) (rest : JobExchange) → 1 ≤ length ps → said (fed_pages (q ∷ ps) rest) ≡ asking q 0
unfolding said fed_pages
fed_says_more q [] rest h = absurd (let z : 1 ≤ 0 = h in omega arith)
fed_says_more q (p ∷ ps) rest h = refl

fed_says_last : (q : List ℕ) (rest : JobExchange) → said (fed_pages (q ∷ []) rest) ≡ asking q 8
unfolding said fed_pages confirmed
fed_says_last q rest = refl

some_left : {q : List ℕ} {xs ys : List (List ℕ)} → xs ≡ q ∷ ys → 1 ≤ length xs
some_left {q} {xs} {ys} e = let z : length xs ≡ suc (length ys) = ap length e in omega arith

pub says_feeds_more : (p : ℕ) (im c : List ℕ) → p < page_count im → p + 1 < page_count im → point_says (FeedsPage p) im c ≡ asking (image_page im p) 0
unfolding point_says
says_feeds_more p im c h l =
    let o = add-one p in
    let z : suc p < page_count im = omega arith in
    ap (λ (t : List (List ℕ)). said (fed_pages t (restores (image_pages im) c))) (image_next im p h)
    ∙ fed_says_more (image_page im p) _ (restores (image_pages im) c) (some_left (image_next im (suc p) z))

pub says_feeds_last : (p : ℕ) (im c : List ℕ) → p < page_count im → page_count im ≤ p + 1 → point_says (FeedsPage p) im c ≡ asking (image_page im p) 8
unfolding point_says
says_feeds_last p im c h l =
    let o = add-one p in
    let z : page_count im ≤ suc p = omega arith in
    ap (λ (t : List (List ℕ)). said (fed_pages t (restores (image_pages im) c))) (image_next im p h ∙ ap (λ (t : List (List ℕ)). image_page im p ∷ t) (image_last im (suc p) z))
    ∙ fed_says_last (image_page im p) (restores (image_pages im) c)

-- Answer and buffer: a message of so many bytes, nothing to send, or the end.

pub speaks : (x : Said Message Ending) (r : RadioAdvanced) (out now m : List ℕ) (n k : ℕ) → x ≡ asking m k → length m ≡ n → r ≡ asks_for n k
    → now ≡ m ++ drop n out → (r ≡ takes_answer x) × (now ≡ message_put x out)
unfolding message_put
speaks x r out now m n k e l a o = (
  a ∙ ap (λ (i : ℕ). asks_for i k) (sym l) ∙ sym (ap takes_answer e),
  o ∙ ap (λ (i : ℕ). m ++ drop i out) (sym l) ∙ sym (ap (λ (y : Said Message Ending). message_of y ++ drop (length (message_of y)) out) e),
)

-- whether a page is the last, by the page behind it
pub page_more : (p n q : ℕ) → page_behind p n ≡ Some q → p + 1 < pages_for n
page_more p n q = by_test (ltb (p + 1) (pages_for n)) (λ t e. ltb-true (p + 1) (pages_for n) t) (λ t. rw t (λ e. absurd (let z : ◌≡◌ {A = ℕ} 0 1 = cc in omega arith)))

pub page_last : (p n : ℕ) → page_behind p n ≡ None → pages_for n ≤ p + 1
page_last p n = by_test (ltb (p + 1) (pages_for n)) (λ t. rw t (λ e. absurd (let z : ◌≡◌ {A = ℕ} 0 1 = cc in omega arith))) (λ t e. ltb-false (p + 1) (pages_for n) t)

-- a message of a whole page, in a buffer of one page
pub speaks_page : (x : Said Message Ending) (r : RadioAdvanced) (out now m : List ℕ) (k : ℕ) → length out ≡ 256 → x ≡ asking m k → length m ≡ 256 → r ≡ asks_for 256 k
    → now ≡ m → (r ≡ takes_answer x) × (now ≡ message_put x out)
speaks_page x r out now m k b e l a o =
    speaks x r out now m 256 k e l a (o ∙ sym (append-nil m) ∙ ap (λ (t : List ℕ). m ++ t) (sym (drop_all 256 out (omega arith))))

pub command_long : (n : CommandName) (p0 p1 p2 : ℕ) → length (command_message n p0 p1 p2) ≡ 8
unfolding built
command_long n p0 p1 p2 = refl

-- what is written into the first page of a longer buffer is written into the buffer
pub put_first : (x : Said Message Ending) (out page : List ℕ) → length (message_of x) ≤ 256 → 256 ≤ length out → page ≡ message_put x (take 256 out)
    → page ++ drop 256 out ≡ message_put x out
unfolding message_put
put_first x out page k b e =
    let m = message_of x in
    let n = length m in
    let i = length-take-le 256 out b in
    ap (λ (t : List ℕ). t ++ drop 256 out) e
    ∙ append_assoc m (drop n (take 256 out)) (drop 256 out)
    ∙ ap (λ (t : List ℕ). m ++ t)
    (sym (drop-append-le n (take 256 out) (drop 256 out) (omega arith)) ∙ ap (λ (t : List ℕ). drop n t) (take-append-drop 256 out))

-- no message is longer than a page
of_long : (x : Said Message Ending) (m : List ℕ) (k n : ℕ) → x ≡ asking m k → length m ≡ n → n ≤ 256 → length (message_of x) ≤ 256
of_long x m k n e l b = let a : length (message_of x) ≡ length m = ap (λ (y : Said Message Ending). length (message_of y)) e in omega arith

pub says_short : (p : JobPoint) (im c : List ℕ) → length c ≡ 256 → point_fits (length im) p ≡ true → length (message_of (point_says p im c)) ≤ 256
says_short AsksConfiguration im c l f = of_long _ _ 8 8 (says_asks_configuration im c) (command_long RdFlashPage 127 0 0) (omega arith)
says_short TakesConfiguration im c l f = of_long _ [] 256 0 (says_takes_configuration im c) refl (omega arith)
says_short ErasesArea im c l f = of_long _ _ 8 8 (says_erases_area im c) (command_long WrPrgArea (page_count im) 0 0) (omega arith)
says_short (FeedsPage p) im c l f =
    let h = ltb-true p (page_count im) f in
    by_test (ltb (p + 1) (page_count im))
    (λ t. of_long _ _ 0 256 (says_feeds_more p im c h (ltb-true (p + 1) (page_count im) t)) (image_page_long im p h) (omega arith))
    (λ t. of_long _ _ 8 256 (says_feeds_last p im c h (ltb-false (p + 1) (page_count im) t)) (image_page_long im p h) (omega arith))
says_short ErasesConfiguration im c l f = of_long _ _ 8 8 (says_erases_configuration im c) (command_long WrFlashPage 127 0 0) (omega arith)
says_short SetsConfiguration im c l f = of_long _ c 8 256 (says_sets_configuration im c) l (omega arith)
says_short SetsByte0 im c l f = of_long _ _ 8 8 (says_byte_0 im c) (command_long WrFlashByte 0x7F 0x00 (message_byte c 0)) (omega arith)
says_short (AsksPage p) im c l f =
    of_long _ _ 8 8 (says_asks_page p im c (ltb-true p (page_count im) f)) (command_long RdFlashPage p 0 0) (omega arith)
says_short (TakesPage p) im c l f = of_long _ [] 256 0 (says_takes_page p im c) refl (omega arith)
says_short SetsByte1 im c l f = of_long _ _ 8 8 (says_byte_1 im c) (command_long WrFlashByte 0x7F 0x01 (message_byte c 1)) (omega arith)
says_short (Finished e) im c l f =
    let a : length (message_of (point_says (Finished e) im c)) ≡ 0 = ap (λ (y : Said Message Ending). length (message_of y)) (says_finished e im c) in omega arith

pub speaks_end : (x : Said Message Ending) (r : RadioAdvanced) (out : List ℕ) (e : Ending) → x ≡ ends e → r ≡ takes_answer (ends e)
    → (r ≡ takes_answer x) × (out ≡ message_put x out)
unfolding message_put
speaks_end x r out e q a = (a ∙ sym (ap takes_answer q), sym (ap (λ (y : Said Message Ending). message_of y ++ drop (length (message_of y)) out) q))

pub says_at : (p q : JobPoint) (im c : List ℕ) (x : Said Message Ending) → p ≡ q → point_says q im c ≡ x → point_says p im c ≡ x
says_at p q im c x e k = ap (λ (y : JobPoint). point_says y im c) e ∙ k

-- a page that is fed does not go by the configuration
pub says_feeds_any : (p : JobPoint) (i : ℕ) (im c : List ℕ) → p ≡ FeedsPage i → i < page_count im → point_says p im c ≡ point_says (FeedsPage i) im []
says_feeds_any p i im c e h =
    says_at p (FeedsPage i) im c _ e
    (by_test (ltb (i + 1) (page_count im))
    (λ t. let l = ltb-true (i + 1) (page_count im) t in says_feeds_more i im c h l ∙ sym (says_feeds_more i im [] h l))
    (λ t. let l = ltb-false (i + 1) (page_count im) t in says_feeds_last i im c h l ∙ sym (says_feeds_last i im [] h l)))

pub speaks_as : (x y : Said Message Ending) (r : RadioAdvanced) (out now : List ℕ) → x ≡ y → r ≡ takes_answer y → now ≡ message_put y out
    → (r ≡ takes_answer x) × (now ≡ message_put x out)
speaks_as x y r out now e a o = (a ∙ ap takes_answer (sym e), o ∙ ap (λ (z : Said Message Ending). message_put z out) (sym e))

-- a byte of a record's page
pub page_byte : (h : List ℕ) (i : ℕ) → i < 256 → get_or h i 0 ≡ message_byte (take 256 h) i
page_byte h i l = sym (get_or-take 256 h i 0 l)

-- Nothing is said without room, with another record, or at no point of the job.
abbrev NothingSaid : (p : JobPoint) (im h out : List ℕ) (r : RadioAdvanced) → Type 0
NothingSaid p im h out r = (r ≡ say_answer p im h out) × (out ≡ say_out p im h out)

pub says_not : (p : JobPoint) (im h out : List ℕ) (r : RadioAdvanced) → may_say p im h out ≡ false → r ≡ asks_for 0 0 → NothingSaid p im h out r
unfolding say_answer say_out
says_not p im h out r e a = rw e (a, refl)

module _ (p : JobPoint) (im h out : List ℕ) where
  pub no_room : length out < 256 → may_say p im h out ≡ false
  unfolding may_say
  no_room l = rw (lt-leb 256 (length out) l)

  pub no_record : (length h ≡ 520 → ⊥) → may_say p im h out ≡ false
  unfolding may_say
  no_record n = by_test (leb 256 (length out)) (λ t. rw (t, ne_eqb (length h) 520 n)) (λ t. rw t)

  pub no_point : image_fits (length im) && point_fits (length im) p ≡ false → may_say p im h out ≡ false
  unfolding may_say
  no_point e = by_test (leb 256 (length out)) (λ t. by_test (eqb (length h) 520) (λ u. rw (t, u) e) (λ u. rw (t, u))) (λ t. rw t)

  pub may_fits : 256 ≤ length out → length h ≡ 520 → image_fits (length im) ≡ true → point_fits (length im) p ≡ true → may_say p im h out ≡ true
  unfolding may_say
  may_fits l k e f = rw (le-leb 256 (length out) l, eq-eqb (length h) 520 k, e, f)

pub says_so : (p : JobPoint) (im h out now : List ℕ) (r : RadioAdvanced) → may_say p im h out ≡ true → r ≡ takes_answer (point_says p im (take 256 h))
    → now ≡ message_put (point_says p im (take 256 h)) out → (r ≡ say_answer p im h out) × (now ≡ say_out p im h out)
unfolding say_answer say_out
says_so p im h out now r e a b = rw e (a, b)
