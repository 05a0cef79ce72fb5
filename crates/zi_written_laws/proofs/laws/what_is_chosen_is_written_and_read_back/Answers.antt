use Rattle.zi_written_laws.proofs.laws.what_is_chosen_is_written_and_read_back.Goals as goal

pub returns : goal.returns
returns c told req policy stored universe choice s root rows loads valid are =
    c.what_is_chosen_is_read_back.ensures told req policy stored universe choice s rows loads valid are
    (c.what_is_chosen_can_be_written.ensures told req policy stored universe choice s root rows loads valid are)
