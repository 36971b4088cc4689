use Rattle.j39_node.proofs.CountLaws.{all_told, is_done, is_gone}
use Rattle.j39_node.proofs.InTurn.{in_turn}
use Rattle.j39_node.proofs.ReceptionLemmas.{holders}
use Rattle.j39_node.proofs.TransferEnds.{told_once, done_means, failed_means, gone_means, withdrawn_means}
use Rattle.j39_node.proofs.transfer_laws.transfer_done_means.Goals as goal

pub returns : goal.returns
returns c = record {
  told = told_once;
  done = done_means;
  acknowledged = λ w H later c now a f x answer. is_done w H later c now a f x answer;
  failed = failed_means;
  gone = gone_means;
  replaced = λ w H later c now a f x answer. is_gone w H later c now a f x answer;
  in_turn = λ w H later c a x is. in_turn w a H later x is.answered;
  withdrawn = withdrawn_means;
  all = all_told;
  holder = λ w H a. (holders w H a).is;
}
