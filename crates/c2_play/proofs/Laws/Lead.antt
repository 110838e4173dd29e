-- The preparation against the target: the lead, then the pairs.
use mathlib.Core.Path.{◌≡◌, refl, ap, ◌∙◌, subst⁻¹}
use mathlib.Core.Bool.{Bool, true, false, not, cond}
use mathlib.Core.List.{List, [], ◌∷◌, map}
use Prim.Native.Nat.{ℕ, zero, suc, ◌<◌}
use native.Mathlib.Omega.{arith}
use borrow.Author.Tests.{leb-true, eq-eqb, ne_eqb}
use lib.Dec.{eqb, leb}
use lib.ListN.{get_or}
use Rattle.laws.proofs.Tests.{both}
use Rattle.numbers.specs.Numbers.{done, other_device}
use Rattle.c2_wire.specs.Exchange.{Exchange, ended, Outcome, outcome}
use Rattle.c2_wire.specs.Frames.{strobes}
use Rattle.settings.specs.declared.Pairs.{Pairs}
use Rattle.settings.specs.Registers.{Pair, pairs_from, pairs_of, is_register, are_registers}
use Rattle.c2_order.specs.Acts.{Act, reset_pulse, pause_20_ms, address_write, data_write}
use Rattle.c2_order.specs.Order.{joined, lead, pair_acts, preparation}
use Rattle.c2_order.specs.Conversation.{limits, conversation}
use Rattle.c2_target.specs.declared.Command.TheVariants.{Ready}
use Rattle.c2_target.specs.declared.Output.TheVariants.{Empty}
use Rattle.c2_target.specs.declared.Link.{Link}
use Rattle.c2_target.specs.declared.Met.{Met}
use Rattle.c2_target.specs.declared.Target.{Target}
use Rattle.c2_target.specs.Delays.{Setup, next_place}
use Rattle.c2_target.specs.Interface.{link, device, linked, given, next_keys, begun, met_written, none_met, frame_does}
use Rattle.c2_target.specs.Target.{cleared, after_reset, after_pause, stepped}
use Rattle.laws.proofs.Bytes.{getD_byte}
use Rattle.c2_target.proofs.Laws.Wanted.{all_written, keys_meet_none}
use Rattle.c2_play.proofs.Laws.Interface.{Fit}
use Rattle.c2_play.proofs.Laws.Onto.{onto_acts}
use Rattle.c2_play.proofs.Laws.Leads.{Leads, onto_leads}
use Rattle.c2_play.proofs.Laws.Frames.{idle, leads, address_write_leads, data_write_leads, data_read_leads}
use Rattle.c2_play.proofs.Laws.Refuses.{refuses_lead}
use Rattle.c2_play.proofs.Laws.Page.{Between}

-- the interface is on, these wanted pairs are met, and the flash is as it was
pub record Led (m : Met) (f : List ℕ) (t : Target) (F : List ℕ) : Type 0 where
  pub between : Between m t
  pub same : F ≡ f

-- which wanted pairs are met once the pairs of the settings are sent
abbrev pub met_by_pairs : Setup → Met
met_by_pairs u = all_written u.wanted (pairs_of u.settings.pairs) none_met

not_false : (b : Bool) → not b ≡ true → b ≡ false
not_false true e = absurd (let z : ◌≡◌ {A = ℕ} 0 1 = cc in omega arith)
not_false false e = refl

module _ (u : Setup) (l r : ℕ) (fit : Fit u l r) where
  abbrev conv : List Act → Exchange
  conv acts = conversation (limits l r) acts

  abbrev fpdat : ℕ
  fpdat = u.settings.fpdat

  abbrev pairs : Pairs
  pairs = u.settings.pairs

  abbrev way_done : Outcome
  way_done = outcome done

  -- the key writes are at a register that no device wants
  lead_leads : (t : Target) (f : List ℕ) → t.collision ≡ false → leads u way_done (λ F. F ≡ f) (Led none_met f) (conv (lead u.settings)) t f
  unfolding Leads lead conversation strobes stepped after_reset after_pause cleared frame_does begun linked given next_keys
  lead_leads t f hm =
      let J : List ℕ → Type 0 = λ F. F ≡ f in
      let Z = Led none_met f in
      let w = u.wanted in
      let p0 = t.place in
      let h1 : 1 < 256 = omega arith in
      let h2 : 2 < 256 = omega arith in
      let h4 : 4 < 256 = omega arith in
      let k4 : List Act = pause_20_ms ∷ [] in
      let k3 : List Act = data_write 1 ∷ k4 in
      let k2 : List Act = data_write 4 ∷ k3 in
      let k1 : List Act = data_write 2 ∷ k2 in
      let past : ℕ → ℕ = λ p. next_place u.delays p in
      let q : ℕ = past (past (past (past p0))) in
      let none : met_written w 2 1 (met_written w 2 4 (met_written w 2 2 none_met)) ≡ none_met =
      keys_meet_none fpdat w 1 _ fit.wanted ∙ keys_meet_none fpdat w 4 _ fit.wanted ∙ keys_meet_none fpdat w 2 none_met fit.wanted in
      rw hm (
        refl,
        data_read_leads u way_done J Z l (λ y. cond (eqb y u.settings.id) (conv (reset_pulse ∷ address_write 2 ∷ k1)) (ended (outcome other_device))) p0 false cleared f fit.some fit.wait fit.id refl
            (rw (eq-eqb u.settings.id u.settings.id refl) (
              refl,
              address_write_leads u way_done J Z l 2 (λ _. conv k1) _ false cleared f h2 refl
                  (data_write_leads u way_done J Z l 2 (λ _. conv k2) _ false _ f fit.some fit.wait h2 refl
                  (data_write_leads u way_done J Z l 4 (λ _. conv k3) _ false _ f fit.some fit.wait h4 refl
                  (data_write_leads u way_done J Z l 1 (λ _. conv k4) _ false _ f fit.some fit.wait h1 refl (
                    refl,
                    (
                      refl,
                      record {
                        between = record {
                          place = q;
                          address = 2;
                          keys = 3;
                          late = 0;
                          is = ap (λ (m : Met). idle q false (device 2 true 3 m (link Ready Empty 0 0))) none;
                          few = omega arith;
                          unkeyed = refl;
                        };
                        same = refl;
                      },
                    ),
                  )))),
            )),
      )

  -- a pair's register is neither FPDAT nor that of the key writes, so its value is written and nothing else
  -- changes
  pairs_lead : (i n : ℕ) (m : Met) (t : Target) (f g : List ℕ) → are_registers fpdat (pairs_from pairs i n) ≡ true → Between m t → g ≡ f
      → leads u way_done (λ F. F ≡ f) (Led (all_written u.wanted (pairs_from pairs i n) m) f) (conv (joined (map pair_acts (pairs_from pairs i n)))) t g
  unfolding Leads joined pair_acts pairs_from are_registers conversation all_written begun frame_does linked next_keys
  pairs_lead i zero m t f g h b e = (refl, record { between = b; same = e })
  pairs_lead i (suc n) m t f g h b e =
      let a : ℕ = get_or pairs.registers i 0 in
      let v : ℕ = get_or pairs.values i 0 in
      let rest : List Pair = pairs_from pairs (suc i) n in
      let J : List ℕ → Type 0 = λ F. F ≡ f in
      let Z = Led (all_written u.wanted rest (met_written u.wanted a v m)) f in
      let acts : List Act = joined (map pair_acts rest) in
      let lk : Link = link Ready Empty 0 b.late in
      let x = both (is_register fpdat a) (are_registers fpdat rest) h in
      let y = both (leb 3 a) (not (eqb a fpdat)) x.0 in
      let off : eqb a fpdat ≡ false = not_false (eqb a fpdat) y.1 in
      let unkeyed : eqb a 2 ≡ false = ne_eqb a 2 (λ z. omega (arith, leb-true 3 a y.0, z)) in
      rw b.is
      (address_write_leads u way_done J Z l a (λ _. conv (data_write v ∷ acts)) b.place false (device b.address true b.keys m lk) g (getD_byte pairs.registers i fit.register_bytes) e
      (rw b.unkeyed
      (data_write_leads u way_done J Z l v (λ _. conv acts) b.place false (device a true 0 m lk) g fit.some fit.wait (getD_byte pairs.values i fit.value_bytes) e
      (rw (off, unkeyed)
      (pairs_lead (suc i) n (met_written u.wanted a v m) _ f g x.1
      (record { place = _; address = a; keys = 0; late = b.late; is = refl; few = b.few; unkeyed = refl }) e)))))

  pub preparation_leads : (t : Target) (f : List ℕ) → t.collision ≡ false
      → leads u way_done (λ F. F ≡ f) (Led (met_by_pairs u) f) (conv (preparation u.settings)) t f
  unfolding preparation
  preparation_leads t f hm =
      let A : List Act = lead u.settings in
      let X : List Act = joined (map pair_acts (pairs_of pairs)) in
      subst⁻¹ (λ (e : Exchange). leads u way_done (λ F. F ≡ f) (Led (met_by_pairs u) f) e t f) (onto_acts (limits l r) A X (refuses_lead u.settings))
      (onto_leads (stepped u) way_done (λ F. F ≡ f) (Led none_met f) (Led (met_by_pairs u) f) (conv A) (conv X) t f (lead_leads t f hm)
      (λ t₁ f₁ y. pairs_lead 0 pairs.count none_met t₁ f f₁ fit.registers y.between y.same))
