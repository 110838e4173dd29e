-- A session cut after any number of steps given to the target (request h): which pages are as before, and
-- which hold their image.
use Rattle.std.specs.Prelude.{◌≡◌, List, ◌++◌, ◌⊎◌, ℕ, suc, ◌-◌, ◌<◌, take, drop, replicate}
use Rattle.numbers.specs.Numbers.{done}
use Rattle.c2_wire.specs.Exchange.{ended, outcome, fed}
use Rattle.settings.specs.declared.Settings.{Settings}
use Rattle.c2_order.specs.Order.{Page}
use Rattle.c2_order.specs.Conversation.{Limits, conversation}
use Rattle.c2_play.specs.Pages.{page_of, At, up_to}

-- These replies have brought the order up to the end of some pages to its end, with no refusal and no byte
-- differing.
abbrev pub Over : Limits → Settings → List Page → (replies : List ℕ) → Type 0
Over l s ps rs = fed (conversation l (up_to s ps)) rs ≡ ended (outcome done)

-- Page i is begun after n steps: one of them is a step of it, so the replies to all but the last have brought
-- the order to the end of the pages before it.
abbrev pub Begun : Limits → Settings → List Page → (own : List ℕ) → (n i : ℕ) → Type 0
Begun l s ps own n i = Over l s (take i ps) (take (n - 1) own)

-- Page i's read-back has ended after n steps: the replies to them have brought the order to the end of it.
abbrev pub ReadBack : Limits → Settings → List Page → (own : List ℕ) → (n i : ℕ) → Type 0
ReadBack l s ps own n i = Over l s (take (suc i) ps) (take n own)

-- What a named page may hold: what it held before, or the first k bytes of its image and 0xFF behind them. With
-- k at 0 it is erased, with k at its size it holds its image.
abbrev pub Partly : (size : ℕ) → (bytes before now : List ℕ) → Type 0
Partly size bs before now = (now ≡ before) ⊎ ((k : ℕ) × (now ≡ take k bs ++ drop k (replicate size 0xff)))

-- Request h after n steps, with the target's own replies, over a flash that was f and is now F: a page not
-- named is as before; one whose read-back has ended holds its image; one not yet begun is as before; at most
-- one is begun and its read-back not ended; and that one too holds what `Partly` says of every named page.
pub record Cut (l : Limits) (s : Settings) (ps : List Page) (own : List ℕ) (n : ℕ) (f F : List ℕ) : Type 0 where
  pub unnamed : (q : ℕ) → q < s.count → ((i : ℕ) (p : Page) → At ps i p → p.number ≡ q → ⊥)
      → page_of s.size q F ≡ page_of s.size q f
  pub read_back : (i : ℕ) (p : Page) → At ps i p → ReadBack l s ps own n i → page_of s.size p.number F ≡ p.bytes
  pub waiting : (i : ℕ) (p : Page) → At ps i p → (Begun l s ps own n i → ⊥) → page_of s.size p.number F ≡ page_of s.size p.number f
  pub one : (i j : ℕ) (p q : Page) → At ps i p → At ps j q → Begun l s ps own n i → (ReadBack l s ps own n i → ⊥)
      → Begun l s ps own n j → (ReadBack l s ps own n j → ⊥) → i ≡ j
  pub each : (i : ℕ) (p : Page) → At ps i p
      → Partly s.size p.bytes (page_of s.size p.number f) (page_of s.size p.number F)
