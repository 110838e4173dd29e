-- The parts of a job played one after the other: pages fed, the configuration set, pages compared.
use mathlib.Core.Path.{◌≡◌, refl, sym, ap, ◌∙◌}
use mathlib.Core.Bool.{true, false}
use mathlib.Core.List.{List, [], ◌∷◌, ◌++◌}
use Prim.Native.Nat.{ℕ, zero, suc, ◌+◌, ◌*◌, ◌-◌, ◌≤◌, ◌<◌}
use native.Mathlib.Omega.{arith}
use lib.ListN.{length, drop, get_or, replicate, length-replicate, length-drop}
use borrow.Author.Tests.{eq-eqb, ne_eqb, lt-ltb, le-ltb, le-leb}
use Rattle.exchange.specs.Exchange.{ended}
use Rattle.radio_command.specs.declared.CommandName.TheVariants.{RdFlashPage, WrFlashPage, WrFlashByte, WrPrgArea}
use Rattle.radio_command.specs.Command.{message_byte, name_of, command_sum, built}
use Rattle.radio_flash.specs.declared.FlashChange.TheVariants.{Nothing, Byte, Page, Area}
use Rattle.radio_flash.specs.Flash.{erased_bytes, is_protected, page_set}
use Rattle.radio_target.specs.declared.ModulePoint.{ModulePoint}
use Rattle.radio_target.specs.declared.ModulePoint.TheVariants.{Waits, Takes, Sends}
use Rattle.radio_target.specs.Deeds.{radio_command, inf_ok, performs, rd_flash_page, wr_flash_page, wr_flash_byte, wr_prg_area}
use Rattle.radio_target.specs.Model.{commanded, response, message_refusal}
use Rattle.radio_target.specs.State.{fresh_state}
use Rattle.radio_job.specs.declared.Ending.{Ending}
use Rattle.radio_job.specs.Image.{page_count, image_pages, image_page}
use Rattle.radio_job.specs.Job.{JobExchange, Standing, say, unless, answer_ending, confirmed, fetched, command_message, fed_pages, same_bytes}
use Rattle.radio_job.specs.Job.{page_ending, pages_compared, protects, restores, ends_done}
use Rattle.radio_job.proofs.Laws.Image.{image_next, image_last, image_page_long}
use Rattle.radio_play.specs.Run.{JobRun, then_run, run_job}
use Rattle.radio_play.specs.Flashes.{flash_with, flash_fed, feeding_flashes}
use Rattle.radio_play.proofs.Laws.Steps.{run_at, said, goes_on, page_sent, answer_read}
use Rattle.radio_play.proofs.Laws.Flashes.{with_long, is_off, page_fed, page_stands, configuration_page, byte_0_set, byte_1_set}
use Rattle.radio_play.proofs.Laws.Flashes.{byte_0_there, byte_1_there}

-- a run with these messages before it
abbrev pub after : List (List ℕ) → JobRun → JobRun
after fs x = record { ending = x.ending; flashes = fs ++ x.flashes; target = x.target; flash = x.flash }

-- The last page is answered by INF_OK, one before it is not answered.
last_fed : (p : List ℕ) (rest : JobExchange) (i : ℕ) (f : List ℕ) → length f ≡ 33024 → length p ≡ 256 → i < 128
    → run_at (confirmed p rest) (Takes i 1) f ≡ then_run (page_set i p f) (run_at rest Waits (page_set i p f))
unfolding confirmed message_refusal built
last_fed p rest i f w l h =
    let b : i + 1 ≤ 128 = omega arith in
    let r : message_refusal (Takes i 1) f p 256 ≡ 0 = rw (eq-eqb (length f) 33024 w, le-leb (i + 1) 128 b, eq-eqb (length p) 256 l) in
    said p 8 (λ r. unless (answer_ending r) rest) (Takes i 1) f r refl
    ∙ ap (λ (v : Standing). then_run (page_set i p f) (run_at (unless v rest) Waits (page_set i p f))) (answer_read (inf_ok 0))

next_fed : (p : List ℕ) (rest : JobExchange) (i n : ℕ) (f : List ℕ) → length f ≡ 33024 → length p ≡ 256 → i + suc (suc n) ≤ 128
    → run_at (say p 0 (λ _. rest)) (Takes i (suc (suc n))) f ≡ then_run (page_set i p f) (run_at rest (Takes (suc i) (suc n)) (page_set i p f))
unfolding message_refusal
next_fed p rest i n f w l h =
    let k : suc (suc n) ≡ 1 → ⊥ = λ e. omega arith in
    let z : suc (suc n) - 1 ≡ suc n = omega arith in
    let o : 1 ≤ suc (suc n) = omega arith in
    let r : message_refusal (Takes i (suc (suc n))) f p 256 ≡ 0 =
    rw (eq-eqb (length f) 33024 w, le-leb 1 (suc (suc n)) o, le-leb (i + suc (suc n)) 128 h, eq-eqb (length p) 256 l) in
    let short : length (response (Takes i (suc (suc n))) f p).reply ≡ 0 = rw (ne_eqb (suc (suc n)) 1 k) in
    said p 0 (λ _. rest) (Takes i (suc (suc n))) f r short
    ∙ ap (λ (q : ModulePoint). then_run (page_set i p f) (run_at rest q (page_set i p f))) (rw (ne_eqb (suc (suc n)) 1 k, z))

fed_one : (p : List ℕ) (rest : JobExchange) → fed_pages (p ∷ []) rest ≡ confirmed p rest
unfolding fed_pages
fed_one p rest = refl

fed_more : (p q : List ℕ) (qs : List (List ℕ)) (rest : JobExchange) → fed_pages (p ∷ q ∷ qs) rest ≡ say p 0 (λ _. fed_pages (q ∷ qs) rest)
unfolding fed_pages
fed_more p q qs rest = refl

compared_one : (i : ℕ) (p : List ℕ) (ps : List (List ℕ)) (rest : JobExchange)
    → pages_compared i (p ∷ ps) rest ≡ fetched i (λ r. unless (page_ending i p r) (pages_compared (suc i) ps rest))
unfolding pages_compared
compared_one i p ps rest = refl

compared_none : (i : ℕ) (rest : JobExchange) → pages_compared i [] rest ≡ rest
unfolding pages_compared
compared_none i rest = refl

-- a page that is the image's goes on
same_self : (xs : List ℕ) → same_bytes xs xs ≡ true
unfolding same_bytes
same_self [] = refl
same_self (x ∷ xs) = rw (eq-eqb x x refl) (same_self xs)

equal_page : (i : ℕ) (p : List ℕ) (rest : JobExchange) → unless (page_ending i p p) rest ≡ rest
unfolding page_ending
equal_page i p rest = rw (same_self p)

-- what the commands do while code protection is off
read_any : (i : ℕ) (f : List ℕ) → i < 127 → is_protected f ≡ false → commanded (command_message RdFlashPage i 0 0) f ≡ performs Nothing (Sends i 1)
unfolding commanded built name_of rd_flash_page
read_any i f h p =
    let l : i ≤ 128 = omega arith in
    rw (eq-eqb _ _ (refl {a = command_sum 0xA5 0x69 i 0 0}), lt-ltb i 127 h, p, le-ltb 128 i l)

page_command : (f : List ℕ) → is_protected f ≡ false → commanded (command_message WrFlashPage 127 0 0) f ≡ performs (Page 127) (Takes 127 1)
unfolding commanded built command_sum name_of wr_flash_page
page_command f p = rw p

byte_command : (lo to : ℕ) (f : List ℕ) → get_or f (256 * 0x7F + lo) 0 ≡ 0xFF
    → commanded (command_message WrFlashByte 0x7F lo to) f ≡ performs (Byte (256 * 0x7F + lo) to) Waits
unfolding commanded built name_of wr_flash_byte
byte_command lo to f e = rw (eq-eqb _ _ (refl {a = command_sum 0xA5 0x6C 0x7F lo to}), e)

pub area_command : (n : ℕ) (f : List ℕ) → is_protected f ≡ false → 1 ≤ n → n ≤ 127
    → commanded (command_message WrPrgArea n 0 0) f ≡ performs Area (Takes 0 n)
unfolding commanded built name_of wr_prg_area
area_command n f p h k =
    let z : n ≡ 0 → ⊥ = λ e. omega arith in
    rw (eq-eqb _ _ (refl {a = command_sum 0xA5 0x6E n 0 0}), p, ne_eqb n 0 z, le-ltb 127 n k)

module _ (im info : List ℕ) (few : page_count im ≤ 126) (wi : length info ≡ 256) where
  abbrev ps : List (List ℕ)
  ps = image_pages im

  abbrev n : ℕ
  n = page_count im

  -- the pages from one on
  pub all_fed : (k i : ℕ) (rest : JobExchange) → i + suc k ≡ n
      → run_at (fed_pages (drop i ps) rest) (Takes i (suc k)) (flash_fed im i info)
      ≡ after (feeding_flashes im i (suc k) info) (run_at rest Waits (flash_fed im n info))
  unfolding feeding_flashes
  all_fed zero i rest e =
      let h : i < n = omega arith in
      let z : suc i ≡ n = omega arith in
      let y : n ≤ suc i = omega arith in
      let p = image_page im i in
      let s = length-replicate {A = ℕ} 252 0xFF in
      let b : i < 128 = omega arith in
      let b' : i ≤ n = omega arith in
      ap (λ (t : List (List ℕ)). run_at (fed_pages t rest) (Takes i 1) (flash_fed im i info)) (image_next im i h ∙ ap (λ (t : List (List ℕ)). p ∷ t) (image_last im (suc i) y))
      ∙ ap (λ (x : JobExchange). run_at x (Takes i 1) (flash_fed im i info)) (fed_one p rest)
      ∙ last_fed p rest i (flash_fed im i info) (with_long im info few wi i 0xFF 0xFF (erased_bytes 252) b' s) (image_page_long im i h) b
      ∙ ap (λ (f : List ℕ). then_run f (run_at rest Waits f)) (page_fed im info few wi i 0xFF 0xFF (erased_bytes 252) h)
      ∙ ap (λ (j : ℕ). then_run (flash_fed im (suc i) info) (run_at rest Waits (flash_fed im j info))) z
  all_fed (suc k) i rest e =
      let h : i < n = omega arith in
      let h' : suc i < n = omega arith in
      let z : suc i + suc k ≡ n = omega arith in
      let p = image_page im i in
      let s = length-replicate {A = ℕ} 252 0xFF in
      let b : i + suc (suc k) ≤ 128 = omega arith in
      let b' : i ≤ n = omega arith in
      ap (λ (t : List (List ℕ)). run_at (fed_pages t rest) (Takes i (suc (suc k))) (flash_fed im i info)) (image_next im i h ∙ ap (λ (t : List (List ℕ)). p ∷ t) (image_next im (suc i) h'))
      ∙ ap (λ (x : JobExchange). run_at x (Takes i (suc (suc k))) (flash_fed im i info)) (fed_more p (image_page im (suc i)) (drop (suc (suc i)) ps) rest)
      ∙ next_fed p (fed_pages (image_page im (suc i) ∷ drop (suc (suc i)) ps) rest) i k (flash_fed im i info) (with_long im info few wi i 0xFF 0xFF (erased_bytes 252) b' s) (image_page_long im i h) b
      ∙ ap (λ (f : List ℕ). then_run f (run_at (fed_pages (image_page im (suc i) ∷ drop (suc (suc i)) ps) rest) (Takes (suc i) (suc k)) f)) (page_fed im info few wi i 0xFF 0xFF (erased_bytes 252) h)
      ∙ ap (λ (t : List (List ℕ)). then_run (flash_fed im (suc i) info) (run_at (fed_pages t rest) (Takes (suc i) (suc k)) (flash_fed im (suc i) info))) (sym (image_next im (suc i) h'))
      ∙ ap (then_run (flash_fed im (suc i) info)) (all_fed k (suc i) rest z)

  -- the pages compared, from one on
  module _ (a : ℕ) (t : List ℕ) (l : length t ≡ 252) where
    abbrev there : List ℕ
    there = flash_with im n a 0xFF t info

    there_long : length there ≡ 33024
    there_long = let b : n ≤ n = omega arith in with_long im info few wi n a 0xFF t b l

    there_off : is_protected there ≡ false
    there_off = let b : n ≤ n = omega arith in is_off im info few wi n a 0xFF t b (λ z. let y : ◌≡◌ {A = ℕ} 0xFF 0 = z in omega arith)

    twice : (k : ℕ) → there ∷ there ∷ replicate (2 * k) there ≡ replicate (2 * suc k) there
    twice k = let z : suc (suc (2 * k)) ≡ 2 * suc k = omega arith in ap (λ (j : ℕ). replicate j there) z

    pub all_compared : (k i : ℕ) (rest : JobExchange) → i + k ≡ n
        → run_at (pages_compared i (drop i ps) rest) Waits there ≡ after (replicate (2 * k) there) (run_at rest Waits there)
    all_compared zero i rest e =
        let y : n ≤ i = omega arith in
        ap (λ (s : List (List ℕ)). run_at (pages_compared i s rest) Waits there) (image_last im i y)
        ∙ ap (λ (x : JobExchange). run_at x Waits there) (compared_none i rest)
    all_compared (suc k) i rest e =
        let h : i < n = omega arith in
        let h1 : i < 127 = omega arith in
        let h2 : i < 129 = omega arith in
        let z : suc i + k ≡ n = omega arith in
        let p = image_page im i in
        let more = pages_compared (suc i) (drop (suc i) ps) rest in
        ap (λ (s : List (List ℕ)). run_at (pages_compared i s rest) Waits there) (image_next im i h)
        ∙ ap (λ (x : JobExchange). run_at x Waits there) (compared_one i p (drop (suc i) ps) rest)
        ∙ page_sent i (λ r. unless (page_ending i p r) more) there there_long h2 (read_any i there h1 there_off)
        ∙ ap (λ (q : List ℕ). then_run there (then_run there (run_at (unless (page_ending i p q) more) Waits there))) (page_stands im info few wi i a 0xFF t h)
        ∙ ap (λ (x : JobExchange). then_run there (then_run there (run_at x Waits there))) (equal_page i p more)
        ∙ ap (λ (x : JobRun). then_run there (then_run there x)) (all_compared k (suc i) rest z)
        ∙ ap (λ (s : List (List ℕ)). after s (run_at rest Waits there)) (twice k)

  -- byte 0 and byte 1
  byte_0 : (v : ℕ) (t : List ℕ) (rest : JobExchange) → length t ≡ 252
      → run_at (confirmed (command_message WrFlashByte 0x7F 0x00 v) rest) Waits (flash_with im n 0xFF 0xFF t info)
      ≡ then_run (flash_with im n v 0xFF t info) (run_at rest Waits (flash_with im n v 0xFF t info))
  byte_0 v t rest l =
      let b : n ≤ n = omega arith in
      let f = flash_with im n 0xFF 0xFF t info in
      goes_on (radio_command WrFlashByte 0x7F 0x00 v) rest f (performs (Byte 32512 v) Waits) (with_long im info few wi n 0xFF 0xFF t b l) (byte_command 0 v f (byte_0_there im info few wi n 0xFF 0xFF t b)) 0 refl
      ∙ ap (λ (g : List ℕ). then_run g (run_at rest Waits g)) (byte_0_set im info few wi n 0xFF 0xFF v t b)

  byte_1 : (a v : ℕ) (t : List ℕ) (rest : JobExchange) → length t ≡ 252
      → run_at (confirmed (command_message WrFlashByte 0x7F 0x01 v) rest) Waits (flash_with im n a 0xFF t info)
      ≡ then_run (flash_with im n a v t info) (run_at rest Waits (flash_with im n a v t info))
  byte_1 a v t rest l =
      let b : n ≤ n = omega arith in
      let f = flash_with im n a 0xFF t info in
      goes_on (radio_command WrFlashByte 0x7F 0x01 v) rest f (performs (Byte 32513 v) Waits) (with_long im info few wi n a 0xFF t b l) (byte_command 1 v f (byte_1_there im info few wi n a 0xFF t b)) 0 refl
      ∙ ap (λ (g : List ℕ). then_run g (run_at rest Waits g)) (byte_1_set im info few wi n a 0xFF v t b)

  -- the configuration page
  page_written : (c : List ℕ) (rest : JobExchange) → length c ≡ 256
      → run_at (confirmed (command_message WrFlashPage 127 0 0) (confirmed c rest)) Waits (flash_fed im n info)
      ≡ then_run (flash_fed im n info) (then_run (flash_with im n 0xFF 0xFF (drop 4 c) info) (run_at rest Waits (flash_with im n 0xFF 0xFF (drop 4 c) info)))
  page_written c rest l =
      let b : n ≤ n = omega arith in
      let s = length-replicate {A = ℕ} 252 0xFF in
      let f = flash_fed im n info in
      let h : 127 < 128 = omega arith in
      let w = with_long im info few wi n 0xFF 0xFF (erased_bytes 252) b s in
      let o : is_protected f ≡ false = is_off im info few wi n 0xFF 0xFF (erased_bytes 252) b (λ z. let y : ◌≡◌ {A = ℕ} 0xFF 0 = z in omega arith) in
      goes_on (radio_command WrFlashPage 127 0 0) (confirmed c rest) f (performs (Page 127) (Takes 127 1)) w (page_command f o) 0 refl
      ∙ ap (λ (g : List ℕ). then_run g (run_at (confirmed c rest) (Takes 127 1) g)) (configuration_page im info few wi n 0xFF 0xFF (erased_bytes 252) (erased_bytes 256) b s)
      ∙ ap (then_run f) (last_fed c rest 127 f w l h)
      ∙ ap (λ (g : List ℕ). then_run f (then_run g (run_at rest Waits g))) (configuration_page im info few wi n 0xFF 0xFF (erased_bytes 252) c b s)

  -- so the configuration is restored and the image compared
  pub all_restored : (c : List ℕ) → length c ≡ 256
      → (let set = flash_with im n (message_byte c 0) 0xFF (drop 4 c) info in
      let last = flash_with im n (message_byte c 0) (message_byte c 1) (drop 4 c) info in
      run_at (restores ps c) Waits (flash_fed im n info)
      ≡ record {
        ending = ends_done;
        flashes = flash_fed im n info ∷ flash_with im n 0xFF 0xFF (drop 4 c) info ∷ set ∷ (replicate (2 * n) set ++ (last ∷ []));
        target = fresh_state;
        flash = last;
      })
  unfolding restores protects run_job
  all_restored c l =
      let s : length (drop 4 c) ≡ 252 = let d = length-drop 4 c in omega arith in
      let f0 = flash_fed im n info in
      let f1 = flash_with im n 0xFF 0xFF (drop 4 c) info in
      let f2 = flash_with im n (message_byte c 0) 0xFF (drop 4 c) info in
      let z : 0 + n ≡ n = omega arith in
      page_written c _ l
      ∙ ap (λ (x : JobRun). then_run f0 (then_run f1 x)) (byte_0 (message_byte c 0) (drop 4 c) _ s)
      ∙ ap (λ (x : JobRun). then_run f0 (then_run f1 (then_run f2 x))) (all_compared (message_byte c 0) (drop 4 c) s n 0 _ z)
      ∙ ap (λ (x : JobRun). then_run f0 (then_run f1 (then_run f2 (after (replicate (2 * n) f2) x)))) (byte_1 (message_byte c 0) (message_byte c 1) (drop 4 c) (ended ends_done) s)
