mod Agreed
