-- The run's own words written and read. Assumes nothing.
use Rattle.std.proofs.Common.{◌≡◌, ℕ, ◌+◌, ◌-◌, ◌*◌, ◌/◌, ◌%◌, ◌≤◌, List, [], ◌∷◌, length, get_or, refl, ap, ◌∙◌, inl, inr, ⊎_elim, arith}
use Rattle.words.specs.Words.{word_at, put_row}
use Rattle.words.proofs.Rows.{length-put_row}
use Rattle.machine.specs.Stack.{row_at}
use Rattle.machine.specs.declared.Machine.{Machine}
use Rattle.machine.proofs.Rowing.{row_put, row_kept, place_kept}
use Rattle.stepping.specs.Stepping.{own_row, level_in, machine_in}
use Rattle.stepping.specs.Ended.{Saved}

pub saved_rows : (k k₁ k₂ : List ℕ) (m : Machine) (u s g : ℕ) → 327680 ≤ length k
    → k₁ ≡ put_row k own_row ((m.mode + 1) ∷ m.x ∷ m.y ∷ m.level ∷ m.mark ∷ m.place ∷ m.fuel ∷ (m.mask % 4294967296) ∷ [])
    → k₂ ≡ put_row k₁ (own_row + 1) ((m.mask / 4294967296) ∷ u ∷ s ∷ g ∷ 0 ∷ 0 ∷ 0 ∷ 0 ∷ []) → Saved k m u s g k₂
saved_rows k k₁ k₂ m u s g l e₁ e₂ =
    let l₁ : length k₁ ≡ length k = ap length e₁ ∙ length-put_row k own_row _ (omega arith) refl in
    let i₂ : 8 * (own_row + 1) + 8 ≤ length k₁ = omega arith in
    record {
      long = ap length e₂ ∙ length-put_row k₁ (own_row + 1) _ i₂ refl ∙ l₁;
      own = ap (λ k. row_at k own_row) e₂ ∙ row_kept k₁ (own_row + 1) _ i₂ refl own_row (λ z. omega arith) ∙ ap (λ k. row_at k own_row) e₁ ∙
          row_put k own_row _ (omega arith) refl;
      given = ap (λ k. row_at k (own_row + 1)) e₂ ∙ row_put k₁ (own_row + 1) _ i₂ refl;
      other = λ j h. ap (λ k. get_or k j 0) e₂ ∙ place_kept k₁ (own_row + 1) _ i₂ refl j (⊎_elim (λ z. inl (omega arith)) (λ z. inr (omega
          arith)) h)
          ∙ ap (λ k. get_or k j 0) e₁ ∙ place_kept k own_row _ (omega arith) refl j (⊎_elim (λ z. inl (omega arith)) (λ z. inr (omega arith))
          h);
    }

pub machine-read : (k : List ℕ) (a x y l lv mark place fuel lo hi : ℕ) → a ≡ word_at k own_row 0 → x ≡ word_at k own_row 1 → y ≡ word_at k
    own_row 2 → l ≡ word_at k own_row 3 → lv ≡ level_in (a - 1) l
    → mark ≡ word_at k own_row 4 → place ≡ word_at k own_row 5 → fuel ≡ word_at k own_row 6 → lo ≡ word_at k own_row 7 → hi ≡ word_at k (own_row + 1)
    0
    → ◌≡◌ {A = Machine} (record {
      x = x;
      mode = a - 1;
      y = y;
      level = lv;
      mark = mark;
      place = place;
      fuel = fuel;
      mask = lo + hi *
          4294967296;
    }) (machine_in k)
machine-read k a x y l lv mark place fuel lo hi ea ex ey el ev em ep ef eo eh =
    let z : lo + hi * 4294967296 ≡ word_at k own_row 7 + 4294967296 * word_at k (own_row + 1) 0 = omega arith in
    let v : lv ≡ level_in (word_at k own_row 0 - 1) (word_at k own_row 3) = ev ∙ (λ i. level_in (ea i - 1) (el i)) in
    λ i. record { x = ex i; mode = ea i - 1; y = ey i; level = v i; mark = em i; place = ep i; fuel = ef i; mask = z i }
