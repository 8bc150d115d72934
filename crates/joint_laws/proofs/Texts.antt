-- The joint replays of small recordings, by computation.
use Rattle.joint_laws.proofs.Common.{◌≡◌, refl, at_places, leads, any_below, before, edge, greatest_first, edges_into, serve, an_exit, two_loads_of_a_word, a_skipped_load, a_byte_store, a_line_put_out, a_conditional_store, one_a_time, a_call_at_full_length, a_fault, a_limit, a_line_lost, a_reservation_lost, a_filled_word, a_relay}
use Rattle.std.specs.Fmt.{digits}
use Rattle.hex.specs.Hex.{encode_with}
use Rattle.bn_base.specs.EndMarks.{reason_word}
use Rattle.bn_base.specs.Faults.{fault_name}
use Rattle.le_numbers.specs.Numbers.{number_bytes}
use Rattle.rv_text.specs.Names.{register_name, mnemonic, ordering}
use Rattle.rv_text.specs.Instructions.{hex8, first_operand, register_operand, number_operand, offset_operand, memory_operand, target_operand, upper_operand, instruction_text}
use Rattle.rv_text.specs.Rows.{point_text, word_text, register_text, labelled, changes_text, fault_text, row_text}
use Rattle.rv_text.specs.Marks.{mark_text, end_text}
use Rattle.joint_replay.specs.Texts.{pass_text, known_text}
use Rattle.joint_laws.specs.Corpus.{joined, text_of_an_exit, text_of_two_loads_of_a_word, text_of_a_skipped_load, text_of_a_byte_store, text_of_a_line_put_out, text_of_a_conditional_store, text_of_one_a_time, text_of_a_call_at_full_length, text_of_a_fault, text_of_a_limit, text_of_a_line_lost, text_of_a_reservation_lost, text_of_a_filled_word, text_of_a_relay}

pub joined_an_exit : joined an_exit ≡ text_of_an_exit
unfolding serve at_places leads any_below before edge greatest_first edges_into number_bytes digits encode_with reason_word register_name mnemonic ordering hex8 first_operand register_operand number_operand offset_operand memory_operand target_operand upper_operand instruction_text point_text word_text register_text labelled changes_text fault_text row_text mark_text end_text pass_text known_text
joined_an_exit = refl

pub joined_two_loads_of_a_word : joined two_loads_of_a_word ≡ text_of_two_loads_of_a_word
unfolding serve at_places leads any_below before edge greatest_first edges_into number_bytes digits encode_with reason_word register_name mnemonic ordering hex8 first_operand register_operand number_operand offset_operand memory_operand target_operand upper_operand instruction_text point_text word_text register_text labelled changes_text fault_text row_text mark_text end_text pass_text known_text
joined_two_loads_of_a_word = refl

pub joined_a_skipped_load : joined a_skipped_load ≡ text_of_a_skipped_load
unfolding serve at_places leads any_below before edge greatest_first edges_into number_bytes digits encode_with reason_word register_name mnemonic ordering hex8 first_operand register_operand number_operand offset_operand memory_operand target_operand upper_operand instruction_text point_text word_text register_text labelled changes_text fault_text row_text mark_text end_text pass_text known_text
joined_a_skipped_load = refl

pub joined_a_byte_store : joined a_byte_store ≡ text_of_a_byte_store
unfolding serve at_places leads any_below before edge greatest_first edges_into number_bytes digits encode_with reason_word register_name mnemonic ordering hex8 first_operand register_operand number_operand offset_operand memory_operand target_operand upper_operand instruction_text point_text word_text register_text labelled changes_text fault_text row_text mark_text end_text pass_text known_text
joined_a_byte_store = refl

pub joined_a_line_put_out : joined a_line_put_out ≡ text_of_a_line_put_out
unfolding serve at_places leads any_below before edge greatest_first edges_into number_bytes digits encode_with reason_word register_name mnemonic ordering hex8 first_operand register_operand number_operand offset_operand memory_operand target_operand upper_operand instruction_text point_text word_text register_text labelled changes_text fault_text row_text mark_text end_text pass_text known_text
joined_a_line_put_out = refl

pub joined_a_conditional_store : joined a_conditional_store ≡ text_of_a_conditional_store
unfolding serve at_places leads any_below before edge greatest_first edges_into number_bytes digits encode_with reason_word register_name mnemonic ordering hex8 first_operand register_operand number_operand offset_operand memory_operand target_operand upper_operand instruction_text point_text word_text register_text labelled changes_text fault_text row_text mark_text end_text pass_text known_text
joined_a_conditional_store = refl

pub joined_one_a_time : joined one_a_time ≡ text_of_one_a_time
unfolding serve at_places leads any_below before edge greatest_first edges_into number_bytes digits encode_with reason_word register_name mnemonic ordering hex8 first_operand register_operand number_operand offset_operand memory_operand target_operand upper_operand instruction_text point_text word_text register_text labelled changes_text fault_text row_text mark_text end_text pass_text known_text
joined_one_a_time = refl

pub joined_a_call_at_full_length : joined a_call_at_full_length ≡ text_of_a_call_at_full_length
unfolding serve at_places leads any_below before edge greatest_first edges_into number_bytes digits encode_with reason_word register_name mnemonic ordering hex8 first_operand register_operand number_operand offset_operand memory_operand target_operand upper_operand instruction_text point_text word_text register_text labelled changes_text fault_text row_text mark_text end_text pass_text known_text
joined_a_call_at_full_length = refl

pub joined_a_fault : joined a_fault ≡ text_of_a_fault
unfolding serve at_places leads any_below before edge greatest_first edges_into number_bytes digits encode_with reason_word fault_name register_name mnemonic ordering hex8 first_operand register_operand number_operand offset_operand memory_operand target_operand upper_operand instruction_text point_text word_text register_text labelled changes_text fault_text row_text mark_text end_text pass_text known_text
joined_a_fault = refl

pub joined_a_limit : joined a_limit ≡ text_of_a_limit
unfolding serve at_places leads any_below before edge greatest_first edges_into number_bytes digits encode_with reason_word register_name mnemonic ordering hex8 first_operand register_operand number_operand offset_operand memory_operand target_operand upper_operand instruction_text point_text word_text register_text labelled changes_text fault_text row_text mark_text end_text pass_text known_text
joined_a_limit = refl

pub joined_a_line_lost : joined a_line_lost ≡ text_of_a_line_lost
unfolding serve at_places leads any_below before edge greatest_first edges_into number_bytes digits encode_with reason_word register_name mnemonic ordering hex8 first_operand register_operand number_operand offset_operand memory_operand target_operand upper_operand instruction_text point_text word_text register_text labelled changes_text fault_text row_text mark_text end_text pass_text known_text
joined_a_line_lost = refl

pub joined_a_reservation_lost : joined a_reservation_lost ≡ text_of_a_reservation_lost
unfolding serve at_places leads any_below before edge greatest_first edges_into number_bytes digits encode_with reason_word register_name mnemonic ordering hex8 first_operand register_operand number_operand offset_operand memory_operand target_operand upper_operand instruction_text point_text word_text register_text labelled changes_text fault_text row_text mark_text end_text pass_text known_text
joined_a_reservation_lost = refl

pub joined_a_filled_word : joined a_filled_word ≡ text_of_a_filled_word
unfolding serve at_places leads any_below before edge greatest_first edges_into number_bytes digits encode_with reason_word register_name mnemonic ordering hex8 first_operand register_operand number_operand offset_operand memory_operand target_operand upper_operand instruction_text point_text word_text register_text labelled changes_text fault_text row_text mark_text end_text pass_text known_text
joined_a_filled_word = refl

pub joined_a_relay : joined a_relay ≡ text_of_a_relay
unfolding serve at_places leads any_below before edge greatest_first edges_into number_bytes digits encode_with reason_word register_name mnemonic ordering hex8 first_operand register_operand number_operand offset_operand memory_operand target_operand upper_operand instruction_text point_text word_text register_text labelled changes_text fault_text row_text mark_text end_text pass_text known_text
joined_a_relay = refl
