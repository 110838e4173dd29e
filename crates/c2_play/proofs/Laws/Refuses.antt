-- No act of an order ends it done.
use mathlib.Core.Path.{refl}
use mathlib.Core.List.{List, [], ◌∷◌, ◌++◌, map}
use Prim.Native.Nat.{ℕ, suc}
use Rattle.settings.specs.declared.Settings.{Settings}
use Rattle.settings.specs.Registers.{Pair, pairs_of}
use Rattle.c2_order.specs.Acts.{Act, send, poll, expect, put, get, status, puts, compares, Block, erase, block_command, block_write, block_read}
use Rattle.c2_order.specs.Order.{Page, joined, page_blocks, lead, pair_acts, preparation, page_acts}
use Rattle.c2_play.specs.Pages.{up_to}
use Rattle.c2_play.proofs.Laws.Onto.{Refuses}

pub refuses_append : (xs ys : List Act) → Refuses xs → Refuses ys → Refuses (xs ++ ys)
unfolding Refuses
refuses_append [] ys h g = g
refuses_append (send ss ∷ xs) ys h g = refuses_append xs ys h g
refuses_append (poll ok ∷ xs) ys h g = refuses_append xs ys h g
refuses_append (expect y o ∷ xs) ys h g = (h.0, refuses_append xs ys h.1 g)

refuses_puts : (bs : List ℕ) → Refuses (puts bs)
unfolding Refuses puts put
refuses_puts [] = tt
refuses_puts (b ∷ bs) = refuses_puts bs

refuses_compares : (o : ℕ) (bs : List ℕ) → Refuses (compares o bs)
unfolding Refuses compares get
refuses_compares o [] = tt
refuses_compares o (b ∷ bs) = (refl, refuses_compares (suc o) bs)

refuses_erase : (fpdat page : ℕ) → Refuses (erase fpdat page)
unfolding Refuses erase put status get
refuses_erase fpdat page = (refl, (refl, (refl, tt)))

refuses_write : (fpdat : ℕ) (b : Block) → Refuses (block_write fpdat b)
unfolding Refuses block_write block_command put status get
refuses_write fpdat b = (refl, refuses_append (puts b.bytes) status (refuses_puts b.bytes) (refl, tt))

refuses_read : (fpdat : ℕ) (b : Block) → Refuses (block_read fpdat b)
unfolding Refuses block_read block_command put status get
refuses_read fpdat b = (refl, (refl, refuses_compares b.offset b.bytes))

refuses_blocks : (acts : Block → List Act) → ((b : Block) → Refuses (acts b)) → (bs : List Block) → Refuses (joined (map acts bs))
unfolding Refuses joined
refuses_blocks acts h [] = tt
refuses_blocks acts h (b ∷ bs) = refuses_append (acts b) (joined (map acts bs)) (h b) (refuses_blocks acts h bs)

pub refuses_page : (s : Settings) (p : Page) → Refuses (page_acts s p)
unfolding page_acts
refuses_page s p =
    refuses_append (erase s.fpdat p.number ++ joined (map (block_write s.fpdat) (page_blocks s p))) _
    (refuses_append (erase s.fpdat p.number) _ (refuses_erase s.fpdat p.number)
    (refuses_blocks (block_write s.fpdat) (refuses_write s.fpdat) (page_blocks s p)))
    (refuses_blocks (block_read s.fpdat) (refuses_read s.fpdat) (page_blocks s p))

pub refuses_pages : (s : Settings) (ps : List Page) → Refuses (joined (map (page_acts s) ps))
unfolding Refuses joined
refuses_pages s [] = tt
refuses_pages s (p ∷ ps) = refuses_append (page_acts s p) (joined (map (page_acts s) ps)) (refuses_page s p) (refuses_pages s ps)

pub refuses_lead : (s : Settings) → Refuses (lead s)
unfolding Refuses lead
refuses_lead s = (refl, tt)

refuses_pairs : (ps : List Pair) → Refuses (joined (map pair_acts ps))
unfolding Refuses joined pair_acts
refuses_pairs [] = tt
refuses_pairs (p ∷ ps) = refuses_pairs ps

pub refuses_preparation : (s : Settings) → Refuses (preparation s)
unfolding preparation
refuses_preparation s = refuses_append (lead s) (joined (map pair_acts (pairs_of s.pairs))) (refuses_lead s) (refuses_pairs (pairs_of s.pairs))

pub refuses_up_to : (s : Settings) (ps : List Page) → Refuses (up_to s ps)
refuses_up_to s ps = refuses_append (preparation s) (joined (map (page_acts s) ps)) (refuses_preparation s) (refuses_pages s ps)
